use Rattle.std.proofs.Common.{◌≡◌, ◌∷◌, All, length, take, List}
use Rattle.fst_basis.specs.declared.proof.Chain.{Chain}
use Rattle.fst_basis.specs.Basis.{AreJoined, IsChainBelow}
use Rattle.fst_expand.specs.Bridge.{IsWay}
use Rattle.fst_expand.proofs.chaining.chains_of.Given as goal

abbrev pub invariant-loop-at : goal.invariant-loop-at
invariant-loop-at l = record {
  same : l.table.pairs ≡ l.initial.table.pairs;
  below : All (IsChainBelow (length l.m.lowering.now)) l.chains.items;
  chains : (first : Chain) × (others : List Chain) ×
      (l.chains.items ≡ first ∷ others) × IsWay (length l.m.lowering.now) l.m.marks.now l.initial.table.pairs l.u l.v first
      × AreJoined l.m.grammar.now.rules.items l.m.marks.now l.initial.table.pairs (take l.at l.initial.table.pairs) others;
}
