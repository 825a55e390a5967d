-- What a comparison shows where it isn't Yes.
use Rattle.std.proofs.Common.{◌≡◌, ℕ, subst, sym}
use Rattle.fst_types.specs.Tree.{Tree}
use Rattle.fst_equiv.specs.Comparison.{IsComparison, IsTooLargeComparison}
use Rattle.fst_equiv.specs.declared.comparing.Same.{Same}
use Rattle.fst_equiv.specs.declared.comparing.Same.TheVariants as same
use Rattle.fst_premises.specs.Checks.{Check}
use Rattle.fst_typing.specs.Shown.{IsUnequal}
use Rattle.fst_typing.specs.Shown.IsUnequal.{shape, word, undecided, too_large}
use Rattle.fst_premises.specs.declared.fault.CheckFault.TheVariants.{Mismatch, Undecided, TooLarge}
use Rattle.fst_premises.specs.declared.fault.Difference.TheVariants.{Shape, Word}

module _ (c : Check) (at : ℕ) where
  -- the answer, of the type that the derivation has
  moved : (t wanted d : Tree) (a b : Same) → t ≡ d → IsComparison t wanted c.budget a → a ≡ b → IsComparison d wanted c.budget b
  moved t wanted d a b e h i = subst (λ o. IsComparison o wanted c.budget b) e (subst (IsComparison t wanted c.budget) i h)

  pub shows_shape : (t wanted : Tree) (a : Same) {d x y : Tree} → t ≡ d → IsComparison t wanted c.budget a → a ≡ same.Shape →
      x ≡ d → y ≡ wanted → IsUnequal c at d wanted (Mismatch at x y Shape)
  shows_shape t wanted a {d} {x} {y} e h i p q = subst
      (λ o. IsUnequal c at d wanted (Mismatch at o y Shape)) (sym p)
      (subst (λ o. IsUnequal c at d wanted (Mismatch at d o Shape)) (sym q) (shape (moved t wanted d a same.Shape e h i)))

  pub shows_word : (t wanted : Tree) (a : Same) {d x y : Tree} {w : _} {side : _} → t ≡ d → IsComparison t wanted c.budget a →
      a ≡ same.Word w side → x ≡ d → y ≡ wanted → IsUnequal c at d wanted (Mismatch at x y (Word w side))
  shows_word t wanted a {d} {x} {y} {w} {side} e h i p q = subst
      (λ o. IsUnequal c at d wanted (Mismatch at o y (Word w side))) (sym p)
      (subst (λ o. IsUnequal c at d wanted (Mismatch at d o (Word w side))) (sym q)
      (word (moved t wanted d a (same.Word w side) e h i)))

  pub shows_undecided : (t wanted : Tree) (a : Same) {d x y : Tree} {g : _} {pairs : _} → t ≡ d →
      IsComparison t wanted c.budget a → a ≡ same.Undecided g pairs → x ≡ d → y ≡ wanted →
      IsUnequal c at d wanted (Undecided at x y g pairs)
  shows_undecided t wanted a {d} {x} {y} {g} {pairs} e h i p q = subst
      (λ o. IsUnequal c at d wanted (Undecided at o y g pairs)) (sym p)
      (subst (λ o. IsUnequal c at d wanted (Undecided at d o g pairs)) (sym q)
      (undecided (moved t wanted d a (same.Undecided g pairs) e h i)))

  pub shows_large : (t wanted : Tree) {d : Tree} → t ≡ d → IsTooLargeComparison t wanted c.budget →
      IsUnequal c at d wanted (TooLarge at)
  shows_large t wanted {d} e h = too_large (subst (λ o. IsTooLargeComparison o wanted c.budget) e h)
