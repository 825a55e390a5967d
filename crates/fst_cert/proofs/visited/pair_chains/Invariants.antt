use Rattle.std.proofs.Common.{◌≡◌, All, drop, length, take}
use Rattle.fst_basis.specs.Basis.{AreJoinedByRules, IsChainBelow}
use Rattle.fst_cert.proofs.visited.pair_chains.Given as goal

abbrev pub invariant-loop-rule : goal.invariant-loop-rule
invariant-loop-rule l = record {
  same : l.places ≡ l.initial.places;
  below : All (IsChainBelow (length l.g.rules.items)) l.chains.items;
  joined : AreJoinedByRules l.g.rules.items l.marks l.initial.places (drop 1 l.pair.left) l.pair.right
      (take l.rule-index l.rules) l.chains.items;
}
