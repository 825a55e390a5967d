use Rattle.std.proofs.Common.{◌≡◌, ◌≤◌, ℕ, length, Some}
use Rattle.std.specs.Prelude.{slice_get}
use Rattle.fst_expand.specs.Repeats.{AreOrigins, IsRepeat}
use Rattle.fst_expand.proofs.repeats.first_places.Given as goal

abbrev pub invariant-loop-i : goal.invariant-loop-i
invariant-loop-i l = record {
  origins : AreOrigins l.left l.right l.seen.keys l.origins.items l.i;
  count : length l.places.items ≡ l.i;
  each : (i j : ℕ) → slice_get l.places.items i ≡ Some j → (j ≤ i) × IsRepeat l.left l.right j i;
}
