use Rattle.std.proofs.Common.{◌≡◌, ◌≤◌, ◌+◌, length}
use Rattle.fst_shared.specs.Shared.{Keeps, word_of}
use Rattle.fst_expand.specs.Expansion.{AreFollowed, parts_pair}
use Rattle.fst_expand.proofs.following.follow_rules.Given as goal

abbrev pub invariant-loop-i : goal.invariant-loop-i
invariant-loop-i l = record {
  kept : Keeps l.initial.table.words l.table.words;
  room : length l.table.pairs + l.heads ≤ l.room;
  count : length l.counts.items ≡ l.i;
  followed : AreFollowed l.m.grammar.now.rules.items l.m.marks.now l.m.norms.now l.m.lowering.now
      (parts_pair l.initial.table.words l.left l.right) l.initial.table.pairs l.table.pairs l.rules l.others
      (word_of l.initial.table.words l.left.1) (word_of l.initial.table.words l.right.1) l.counts.items l.heads;
}
