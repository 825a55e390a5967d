use Rattle.fst_norms.specs.Pending.{IsEstimate}
use Rattle.fst_norms.proofs.estimate.first.Given as goal

abbrev pub invariant-loop-p : goal.invariant-loop-p
invariant-loop-p l = IsEstimate l.g.rules.items l.e
