use Rattle.std.proofs.Common.{◌≡◌}
use Rattle.fst_derivations.specs.declared.derivation.Derivation.{size-Derivation}
use Rattle.fst_derivations.specs.Deriv.{deriv_of}
use Rattle.fst_rules.specs.Walks.{peeled}
use Rattle.fst_rules.proofs.peeling.peel.Given as goal

abbrev pub invariant-loop-below : goal.invariant-loop-below
invariant-loop-below l = peeled l.vars (deriv_of l.below) ≡ peeled l.vars (deriv_of l.derivation)

abbrev pub decreases-loop-below : goal.decreases-loop-below
decreases-loop-below l = size-Derivation l.below
