use Rattle.std.proofs.Common.{arith}
use Rattle.fst_rules.proofs.Rows.{no_three}
use Rattle.fst_rules.proofs.peeling.three.Goals as goal

pub returns-then-parts-ne3 : goal.returns-then-parts-ne3
returns-then-parts-ne3 c = no_three c.args.parts.now (λ e. absurd (omega (arith, c.if-parts-ne3.true, e)))
