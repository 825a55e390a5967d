use Rattle.std.proofs.Common.{◌≡◌, take}
use Rattle.fst_cert.specs.Visited.{basis_of}
use Rattle.fst_cert.proofs.visited.basis_of.Given as goal

abbrev pub invariant-loop-pair : goal.invariant-loop-pair
invariant-loop-pair l = l.basis.items ≡ basis_of (take l.pair-index l.pairs)
