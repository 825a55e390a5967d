-- The faults of some things, one after the other.
use Rattle.std.proofs.Common.{◌≡◌, ◌∙◌, ℕ, suc, ◌+◌, ◌<◌, List, ◌∷◌, ◌++◌, Option, length, get_or, drop, add-one, sym, ap}
use Rattle.std.proofs.Math.Seq.{drop-cons}
use Rattle.fst_scopes.specs.declared.fault.NameFault.{NameFault}
use Rattle.fst_scopes.specs.First.{first_from}
use Rattle.fst_scopes.proofs.Laws.{first_append}

-- one thing, and then the others
pub next_noted : {A : Type 0} (faults : A → List NameFault) (all : List A → List NameFault) →
    ((x : A) (xs : List A) → all (x ∷ xs) ≡ faults x ++ all xs) →
    (xs : List A) (i : ℕ) (x : A) (kept next : Option NameFault) → i < length xs → x ≡ get_or xs i x →
    next ≡ first_from kept (faults x) → first_from next (all (drop (i + 1) xs)) ≡ first_from kept (all (drop i xs))
next_noted faults all split xs i x kept next lt is noted =
    ap (λ k. first_from k (all (drop (i + 1) xs))) noted ∙ sym (first_append kept (faults x) (all (drop (i + 1) xs)))
    ∙ ap (first_from kept) (sym (split x (drop (i + 1) xs))) ∙
    ap (λ ys. first_from kept (all ys)) (sym front)
  where
    front : drop i xs ≡ x ∷ drop (i + 1) xs
    front = drop-cons xs i x lt ∙ ap (λ z. z ∷ drop (suc i) xs) (sym is) ∙ ap (λ n. x ∷ drop n xs) (sym (add-one i))

-- the faults of a part, and then those of another one
pub both_noted : (fs gs : List NameFault) (kept one two : Option NameFault) → one ≡ first_from kept fs → two ≡ first_from one gs →
    two ≡ first_from kept (fs ++ gs)
both_noted fs gs kept one two first second = second ∙ ap (λ k. first_from k gs) first ∙ sym (first_append kept fs gs)
