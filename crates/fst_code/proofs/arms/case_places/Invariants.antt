use Rattle.std.proofs.Common.{◌≡◌, ℕ, length}
use Rattle.std.specs.Prelude.{Some, slice_get}
use Rattle.fst_types.specs.declared.family.Family.{Family}
use Rattle.fst_terms.specs.ModelCoreView.{core_arms_of}
use Rattle.fst_arms.specs.Arms.{AreEachOnce, arm_labels}
use Rattle.fst_code.specs.Arms.{AreAtMost}
use Rattle.fst_code.proofs.TableLaws.{PlacedSoFar, names}
use Rattle.fst_code.proofs.arms.case_places.Given as goal

abbrev pub invariant-loop-i : goal.invariant-loop-i
invariant-loop-i l = record {
  long : (n : ℕ) (f : Family) → slice_get l.given.families.now n ≡ Some f →
      AreEachOnce (names f.makers.items) (arm_labels (core_arms_of l.arms)) → length l.places.items ≡ length f.makers.items;
  places : (n : ℕ) (f : Family) → slice_get l.given.families.now n ≡ Some f →
      AreEachOnce (names f.makers.items) (arm_labels (core_arms_of l.arms)) → PlacedSoFar f l.arms l.starts l.places.items l.i;
  low : (j : ℕ) → AreAtMost j l.starts → AreAtMost j l.places.items;
}
