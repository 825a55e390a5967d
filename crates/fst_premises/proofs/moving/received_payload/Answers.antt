use Rattle.std.proofs.Common.{arith}
use Rattle.fst_premises.proofs.moving.received_payload.Goals as goal

pub returns : goal.returns
returns c = λ b h. c.loop-label.invariant h.0 (omega (arith, h.1, c.loop-label-test.false)) b h.2
