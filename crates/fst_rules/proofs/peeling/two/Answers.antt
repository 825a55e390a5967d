use Rattle.std.proofs.Common.{arith}
use Rattle.fst_rules.proofs.Rows.{no_two}
use Rattle.fst_rules.proofs.peeling.two.Goals as goal

pub returns-then-parts-ne2 : goal.returns-then-parts-ne2
returns-then-parts-ne2 c = no_two c.args.parts.now (λ e. absurd (omega (arith, c.if-parts-ne2.true, e)))
