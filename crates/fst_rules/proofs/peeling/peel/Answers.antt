use Rattle.std.proofs.Common.{◌∙◌}
use Rattle.fst_rules.proofs.Rows.{row_peeled}
use Rattle.fst_rules.proofs.peeling.peel.Goals as goal

pub returns-in-Row : goal.returns-in-Row
returns-in-Row c =
    row_peeled c.args.vars.now c.in-Row.ty c.in-Row.parts c.loop-below.below.now c.deref.result.now
    c.in_ok-is_formed-in-Row.field-0 c.in-Row.is c.deref.ensures.value c.in_ok-is_formed-in-Row.ensures c.if-not-branch.false
    ∙ c.loop-below.invariant
