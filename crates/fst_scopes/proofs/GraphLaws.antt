-- The places of names, one list after another.
use Rattle.std.proofs.Common.{◌≡◌, ◌∙◌, ℕ, suc, ◌+◌, ◌<◌, List, [], ◌∷◌, ◌++◌, length, get_or, drop, add-one, refl, sym, ap, append_assoc}
use Rattle.std.proofs.Math.Seq.{drop-cons}
use Rattle.fst_types.specs.ModelWrittenView.{written_branches}
use Rattle.fst_types.specs.declared.written.WrittenBranch.{WrittenBranch}
use Rattle.fst_scopes.specs.Aliases.{names_in, names_in_all}
use Rattle.std.specs.Prelude.{option_to_list}
use Rattle.fst_terms.specs.Naming.{place_of}
use Rattle.fst_scopes.specs.Graph.{places_in}

pub places_append : (names xs ys : List (List ℕ)) → places_in names (xs ++ ys) ≡ places_in names xs ++ places_in names ys
places_append names [] ys = refl
places_append names (x ∷ xs) ys = ap (λ z. option_to_list (place_of names x) ++ z) (places_append names xs ys)
    ∙ sym (append_assoc (option_to_list (place_of names x)) (places_in names xs) (places_in names ys))

-- the places of two lists of names, put behind others
pub two_places : (names xs ys : List (List ℕ)) (old kept new : List ℕ) → kept ≡ old ++ places_in names xs →
    new ≡ kept ++ places_in names ys → new ≡ old ++ places_in names (xs ++ ys)
two_places names xs ys old kept new first second =
    second ∙ ap (λ z. z ++ places_in names ys) first ∙ append_assoc old (places_in names xs) (places_in names ys) ∙ ap
    (λ z. old ++ z) (sym (places_append names xs ys))

-- those of one branch, and then of the others
pub branch_places : (names recs : List (List ℕ)) (bs : List WrittenBranch) (i : ℕ) (b : WrittenBranch) (kept next : List ℕ) →
    i < length bs → b ≡ get_or bs i b → next ≡ kept ++ places_in names (names_in recs b.body) →
    next ++ places_in names (names_in_all recs (written_branches (drop (i + 1) bs))) ≡ kept ++ places_in names
    (names_in_all recs (written_branches (drop i bs)))
branch_places names recs bs i b kept next lt is noted =
    two_places names (names_in recs b.body) (names_in_all recs (written_branches (drop (i + 1) bs))) kept next _ noted refl ∙
    ap (λ (z : List WrittenBranch). kept ++ places_in names (names_in_all recs (written_branches z))) (sym front)
  where
    front : drop i bs ≡ b ∷ drop (i + 1) bs
    front = drop-cons bs i b lt ∙ ap (λ z. z ∷ drop (suc i) bs) (sym is) ∙ ap (λ n. b ∷ drop n bs) (sym (add-one i))
