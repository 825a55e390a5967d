use Rattle.std.proofs.Common.{◌≡◌, ℕ, length}
use Rattle.fst_code.specs.Arms.{AreAtMost}
use Rattle.fst_code.proofs.arms.no_places.Given as goal

abbrev pub invariant-loop-i : goal.invariant-loop-i
invariant-loop-i l = record { long : length l.places.items ≡ l._i; low : (j : ℕ) → AreAtMost j l.places.items }
