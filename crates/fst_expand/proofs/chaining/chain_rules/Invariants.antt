use Rattle.std.proofs.Common.{◌≡◌, length}
use Rattle.fst_shared.specs.Shared.{Keeps, word_of}
use Rattle.fst_expand.specs.Expansion.{AreWays}
use Rattle.fst_expand.proofs.chaining.chain_rules.Given as goal

abbrev pub invariant-loop-i : goal.invariant-loop-i
invariant-loop-i l = record {
  kept : Keeps l.initial.table.words l.table.words;
  same : l.table.pairs ≡ l.initial.table.pairs;
  count : length l.chains.items ≡ l.i;
  ways : AreWays (length l.m.lowering.now) l.m.marks.now l.initial.table.pairs l.rules l.others
      (word_of l.initial.table.words l.left.1) (word_of l.initial.table.words l.right.1) l.chains.items;
}
