use Rattle.std.proofs.Common.{◌≡◌, ◌≤◌, ◌-◌, length}
use Rattle.fst_basis.specs.Parted.{word_of}
use Rattle.fst_basis.proofs.rewriting.seek.Given as goal

abbrev pub invariant-loop-word : goal.invariant-loop-word
invariant-loop-word l = word_of l.word ≡ word_of l.initial.word

abbrev pub decreases-loop-word : goal.decreases-loop-word
decreases-loop-word l = length l.word.front.items

abbrev pub invariant-loop-word-2 : goal.invariant-loop-word-2
invariant-loop-word-2 l = record {
  same : word_of l.word ≡ word_of l.initial.word;
  before : length l.word.front.items ≤ l.at;
}

abbrev pub decreases-loop-word-2 : goal.decreases-loop-word-2
decreases-loop-word-2 l = l.at - length l.word.front.items
