use Rattle.std.proofs.Common.{◌↔◌, ◌-◌, ◌≤◌, drop, length}
use Rattle.fst_types.specs.ModelView.{branches_of}
use Rattle.fst_types.specs.Order.{AreRising}
use Rattle.fst_kinds.proofs.labels.are_rising.Given as goal

abbrev pub invariant-loop-i : goal.invariant-loop-i
invariant-loop-i l = record {
  rest : AreRising (branches_of (drop (l.i - 1) l.branches)) ↔ AreRising (branches_of l.branches);
  room : l.i ≤ length l.branches;
}
