use Rattle.std.proofs.Common.{◌↔◌, drop}
use Rattle.fst_basis.specs.Basis.{AreJoinedByRules}
use Rattle.fst_basis.proofs.checking.are_joined_by_rules.Given as goal

abbrev pub invariant-loop-i : goal.invariant-loop-i
invariant-loop-i l = AreJoinedByRules l.g.rules.items l.marks l.basis l.t l.w (drop l.i l.rules) (drop l.i l.chains) ↔
    AreJoinedByRules l.g.rules.items l.marks l.basis l.t l.w l.rules l.chains
