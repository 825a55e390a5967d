use Rattle.std.proofs.Common.{arith}
use Rattle.fst_rules.proofs.Rows.{no_one}
use Rattle.fst_rules.proofs.peeling.one.Goals as goal

pub returns-then-parts-ne1 : goal.returns-then-parts-ne1
returns-then-parts-ne1 c = no_one c.args.parts.now (λ e. absurd (omega (arith, c.if-parts-ne1.true, e)))
