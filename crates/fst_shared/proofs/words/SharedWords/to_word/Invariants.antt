use Rattle.std.proofs.Common.{◌≡◌, ◌<◌, ◌++◌, length}
use Rattle.fst_shared.specs.Shared.{word_of}
use Rattle.fst_shared.proofs.words.SharedWords.to_word.Given as goal

abbrev pub invariant-loop-head : goal.invariant-loop-head
invariant-loop-head l = record {
  within : l.at < length l.self;
  rest : l.numbers.items ++ word_of l.self l.at ≡ word_of l.self l.word;
}

abbrev pub decreases-loop-head : goal.decreases-loop-head
decreases-loop-head l = l.at
