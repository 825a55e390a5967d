-- Terms, and the variables of their arms.
use Rattle.std.proofs.Common.{◌≡◌, ◌∙◌, ◌≢◌, ◌≤◌, ◌<◌, ℕ, suc, List, [], ◌∷◌, length, drop, refl, sym, ap, arith}
use Rattle.std.specs.Prelude.{reverse}
use Rattle.std.proofs.Math.Seq.{drop-append_seam}
use Rattle.std.proofs.lemmas.List.{length-append, length-drop, length-reverse, length-map}
use Rattle.fst_terms.specs.ModelView.{terms_of}
use Rattle.fst_terms.specs.TermTree.{TermTree}
use Rattle.fst_terms.specs.declared.binder.Binder.{Binder}
use Rattle.fst_scopes.specs.Twice.{names}
use Rattle.fst_term_faults.specs.TermFaults.{terms_length, within}

-- how many terms there are
pub length_of : (ts : List TermTree) → terms_length (terms_of ts) ≡ length ts
length_of [] = refl
length_of (t ∷ ts) = ap suc (length_of ts)

names_long : (bs : List Binder) → length (reverse (names bs)) ≡ length bs
names_long bs = length-reverse (names bs) ∙ length-map bs (λ (b : Binder). b.name)

-- as many variables as there are binders can be left
pub within_long : (bs : List Binder) (xs : List (List ℕ)) → length bs ≤ length (within bs xs)
within_long bs xs = omega (arith, names_long bs, length-append (reverse (names bs)) xs)

-- and what was around is left
pub within_left : (bs : List Binder) (xs : List (List ℕ)) → drop (length bs) (within bs xs) ≡ xs
within_left bs xs = ap (λ n. drop n (within bs xs)) (sym (names_long bs)) ∙ drop-append_seam (reverse (names bs)) xs

-- a variable that is left is there
pub one_left : (n : ℕ) (xs : List (List ℕ)) → n < length xs → drop n xs ≢ []
one_left n xs h = λ e. absurd (omega (arith, ap (λ (ys : List (List ℕ)). length ys) e, length-drop n xs))
