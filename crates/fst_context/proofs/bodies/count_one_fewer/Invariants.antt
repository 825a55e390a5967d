use Rattle.std.proofs.Common.{◌≡◌, ◌≤◌, drop, length}
use Rattle.fst_context.proofs.Backward.{Zeros}
use Rattle.fst_context.proofs.bodies.count_one_fewer.Given as goal

abbrev pub decreases-loop-i : goal.decreases-loop-i
decreases-loop-i l = l.i

-- all bodies from the i-th on have no variables
abbrev pub invariant-loop-i : goal.invariant-loop-i
invariant-loop-i l = (l.i ≤ length l.bodies.items) × Zeros (drop l.i l.bodies.items) × (l.bodies.items ≡ l.fn.bodies.items)
