-- What holds of the items of a list up to a place.
use Rattle.std.proofs.Common.{◌≡◌, ◌+◌, ◌<◌, ◌∙◌, ℕ, List, ap, arith, inl, inr, length, slice_index_or, subst}
use Rattle.std.proofs.lemmas.Bool.{cases_lt}
use Rattle.std.proofs.lemmas.List.{get_or_default}

-- what holds of the items up to a place, and of the item there, holds of those up to the next place
pub next : {X : Type 0} (P : X → Type 0) (xs : List X) (i : ℕ) (x : X) → i < length xs → x ≡ slice_index_or xs i x → P x →
    ((k : ℕ) (d : X) → k < i → P (slice_index_or xs k d)) →
    (k : ℕ) (d : X) → k < i + 1 → P (slice_index_or xs k d)
next P xs i x lt is h before k d le = elim (cases_lt k i) [
  | inl less ↦ before k d less
  | inr last ↦
      let at : i ≡ k = omega arith in
      subst P (is ∙ get_or_default xs i x d lt ∙ ap (λ j. slice_index_or xs j d) at) h
]
