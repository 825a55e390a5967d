use Rattle.std.proofs.Common.{◌≤◌, ◌+◌, ◌-◌, length}
use Rattle.fst_shared.specs.Shared.{Keeps, word_of}
use Rattle.fst_expand.specs.Trail.{IsUnderway}
use Rattle.fst_expand.proofs.joining.join.Given as goal

abbrev pub invariant-loop-side : goal.invariant-loop-side
invariant-loop-side l = record {
  underway : IsUnderway l.norms l.words (word_of l.initial.table.words l.left)
      (word_of l.initial.table.words l.right) l.initial.table.pairs l.table l.walk;
  room : length l.table.pairs + l.walk.heads ≤ l.room;
  kept : Keeps l.initial.table.words l.table.words;
}

abbrev pub decreases-loop-side : goal.decreases-loop-side
decreases-loop-side l = l.room - l.walk.heads
