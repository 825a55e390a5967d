use Rattle.std.proofs.Common.{◌≤◌, length}
use Rattle.fst_value.proofs.join.behind_largest.Given as goal

abbrev pub invariant-loop-i : goal.invariant-loop-i
invariant-loop-i l = record { from : l.at ≤ l.behind; within : l.behind ≤ length l.values }
