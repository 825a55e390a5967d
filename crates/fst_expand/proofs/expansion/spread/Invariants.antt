use Rattle.std.proofs.Common.{◌≤◌, ◌-◌, length}
use Rattle.fst_expand.specs.Expansion.{IsExpanded}
use Rattle.fst_expand.specs.Good.{AreDistinct}
use Rattle.fst_expand.proofs.expansion.spread.Given as goal

abbrev pub invariant-loop-at : goal.invariant-loop-at
invariant-loop-at l = record {
  expanded : IsExpanded l.m.grammar.now.rules.items l.m.marks.now l.m.norms.now l.m.lowering.now l.u l.v l.budget l.table.pairs
      l.at l.room;
  once : AreDistinct l.table.pairs;
  room : length l.table.pairs ≤ l.room;
  most : l.room ≤ l.budget;
}

abbrev pub decreases-loop-at : goal.decreases-loop-at
decreases-loop-at l = l.budget - l.at
