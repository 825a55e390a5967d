use Rattle.std.proofs.Common.{◌≡◌, ◌++◌, reverse, take}
use Rattle.fst_basis.proofs.rewriting.take.Given as goal

abbrev pub invariant-loop-n : goal.invariant-loop-n
invariant-loop-n l = reverse l.initial.back.items ≡ take l.n-index l.word ++ reverse l.back.items
