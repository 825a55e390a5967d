use Rattle.std.proofs.Common.{◌∙◌, sym, ap, option_map}
use Rattle.fst_cell.proofs.HeadLaws.{head_on, end_on}
use Rattle.fst_cell.proofs.events.next_by.Goals as goal

pub returns-then-is_end : goal.returns-then-is_end
returns-then-is_end c = end_on c.args.residual.now c.args.label.now (sym c.is_end.ensures ∙ c.if-is_end.true) c.requires

pub returns : goal.returns
returns c =
    head_on c.args.residual.now c.in-Some.first.now c.in-Some-2.next c.args.label.now (sym c.is_end.ensures ∙ c.if-is_end.false)
    (sym c.in_ok-first.ensures ∙ ap (option_map (λ h. h.now)) c.in-Some.is)
    (sym c.in_ok-next.ensures.next ∙ c.in-Some-2.is)
