use Rattle.std.proofs.Common.{◌≤◌}
use Rattle.fst_derivations.specs.declared.derivation.Derivation.{size-Derivation}
use Rattle.fst_derivations.proofs.derivation.Derivation.+drop.Given as goal

abbrev pub invariant-loop-self : goal.invariant-loop-self
invariant-loop-self l = size-Derivation l.self ≤ size-Derivation l.fn.self
