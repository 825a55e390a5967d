use Rattle.std.proofs.Common.{◌≡◌, ◌∙◌, ℕ, ap, arith, inl, inr, refl, slice_index_or, subst, sym}
use Rattle.std.proofs.lemmas.Bool.{cases_lt}
use Rattle.std.proofs.lemmas.List.{get_or_default}
use Rattle.fst_basis.specs.declared.proof.Pair.{Pair}
use Rattle.fst_basis.specs.Basis.{IsPairBelow}
use Rattle.fst_basis.proofs.checking.are_below.Goals as goal

pub returns-then-not-is_pair_below : goal.returns-then-not-is_pair_below
returns-then-not-is_pair_below c = (
  (λ t. cc),
  (λ h. rw c.if-not-is_pair_below.true at c.is_pair_below.ensures.1 (
      let R : Pair → Type 0 = λ z. IsPairBelow c.args.count z in
      subst R (sym c.b-item.is) (h c.loop-b.b-index c.b-item.result (omega arith)))),
)

pub loop-b-preserved : goal.loop-b-preserved
loop-b-preserved c = λ k d l. elim (cases_lt k c.loop-b.b-index) [
  | inl before ↦ c.loop-b.invariant k d before
  | inr last ↦
      let at : c.loop-b.b-index ≡ k = omega arith in
      let is = c.b-item.is ∙ get_or_default c.args.basis.now c.loop-b.b-index c.b-item.result d c.loop-b-test.true ∙ ap
      (λ (i : ℕ). slice_index_or c.args.basis.now i d) at in
      let R : Pair → Type 0 = λ z. IsPairBelow c.args.count z in
      subst R is (c.if-not-is_pair_below.ensures.0 refl)
]

pub returns : goal.returns
returns c = ((λ t k d l. c.loop-b.invariant k d (omega arith)), (λ h. refl))
