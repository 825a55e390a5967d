use Rattle.std.proofs.Common.{◌≡◌, ◌≤◌, length, drop}
use Rattle.fst_safety.specs.Threads.{count_of}
use Rattle.fst_safety.proofs.bags.place.Given as goal

abbrev pub decreases-loop-i : goal.decreases-loop-i
decreases-loop-i l = l.i

abbrev pub invariant-loop-i : goal.invariant-loop-i
invariant-loop-i l = record {
  within : l.i ≤ length l.bag;
  none : count_of l.name (drop l.i l.bag) ≡ 0;
}
