use Rattle.std.proofs.Common.{◌↔◌, drop}
use Rattle.fst_basis.specs.Basis.{AreJoined}
use Rattle.fst_basis.proofs.checking.are_joined.Given as goal

abbrev pub invariant-loop-b : goal.invariant-loop-b
invariant-loop-b l = AreJoined l.g.rules.items l.marks l.basis (drop l.b-index l.basis) l.rest ↔
    AreJoined l.g.rules.items l.marks l.basis l.basis l.chains
