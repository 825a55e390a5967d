use Rattle.std.proofs.Common.{◌≡◌, ◌≤◌, ◌++◌, drop, length, reverse}
use Rattle.fst_words.proofs.word.push_word.Given as goal

abbrev pub invariant-loop-rest : goal.invariant-loop-rest
invariant-loop-rest l = record {
  room : l.rest ≤ length l.word;
  stack : reverse l.stack.items ≡ drop l.rest l.word ++ reverse l.initial.stack.items;
}

abbrev pub decreases-loop-rest : goal.decreases-loop-rest
decreases-loop-rest l = l.rest
