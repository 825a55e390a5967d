use Rattle.std.proofs.Common.{◌≡◌, ◌<◌, ◌≤◌, ◌++◌, length, drop}
use Rattle.fst_shared.specs.Shared.{word_of, Keeps}
use Rattle.fst_shared.proofs.words.SharedWords.concat.Given as goal

abbrev pub invariant-loop-rest : goal.invariant-loop-rest
invariant-loop-rest l = record {
  rest : l.rest ≤ length l.front;
  within : l.word < length l.self;
  word : word_of l.self l.word ≡ drop l.rest l.front ++ word_of l.initial.self l.tail;
  kept : Keeps l.initial.self l.self;
}

abbrev pub decreases-loop-rest : goal.decreases-loop-rest
decreases-loop-rest l = l.rest
