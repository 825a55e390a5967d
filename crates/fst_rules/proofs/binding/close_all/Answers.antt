use Rattle.std.proofs.Common.{◌∙◌, ap, arith}
use Rattle.fst_rules.specs.Walks.{came}
use Rattle.fst_rules.proofs.ArmLaws.{closed_none}
use Rattle.fst_rules.proofs.binding.close_all.Goals as goal

pub returns-then-not-closes : goal.returns-then-not-closes
returns-then-not-closes c =
    closed_none c.args.n c.loop-i.i c.args.context.now c.loop-i.context c.loop-i.invariant.walk
    (c.closes.ensures ∙ ap (λ b. came b c.closes.new.context) c.if-not-closes.true) (omega arith)
