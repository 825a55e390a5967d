use Rattle.std.proofs.Common.{◌≡◌, All, length, take}
use Rattle.fst_basis.specs.Basis.{AreJoined, IsChainBelow}
use Rattle.fst_cert.proofs.visited.basis_chains.Given as goal

abbrev pub invariant-loop-pair : goal.invariant-loop-pair
invariant-loop-pair l = record {
  same : l.places ≡ l.basis;
  below : All (IsChainBelow (length l.g.rules.items)) l.chains.items;
  joined : AreJoined l.g.rules.items l.marks l.basis (take l.pair-index l.basis) l.chains.items;
}
