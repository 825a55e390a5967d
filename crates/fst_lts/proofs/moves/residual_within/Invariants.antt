use Rattle.std.proofs.Common.{◌≡◌, drop}
use Rattle.fst_lts.specs.Step.{step}
use Rattle.fst_base.specs.Agreement.{residual}
use Rattle.fst_lts.proofs.moves.residual_within.Given as goal

abbrev pub invariant-loop-a : goal.invariant-loop-a
invariant-loop-a l = residual step l.left (drop l.a-index l.trace) ≡ residual step l.t l.trace
