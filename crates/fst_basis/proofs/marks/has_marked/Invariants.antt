use Rattle.std.proofs.Common.{◌≡◌, drop}
use Rattle.fst_words.specs.Marks.{has_marked}
use Rattle.fst_basis.proofs.marks.has_marked.Given as goal

abbrev pub invariant-loop-n : goal.invariant-loop-n
invariant-loop-n l = has_marked l.marks (drop l.n-index l.word) ≡ has_marked l.marks l.word
