use Rattle.std.proofs.Common.{◌∙◌, ap, sym}
use Rattle.fst_command.specs.Audited.{first_line, other_lines}
use Rattle.fst_command.proofs.FirstLines.{first_alone, first_before, none_behind, others_behind}
use Rattle.fst_command.proofs.auditing.cut.Goals as goal

pub returns-in-Some-clause-first : goal.returns-in-Some-clause-first
returns-in-Some-clause-first c =
    sym (ap first_line c.in-Some.ensures.some.0 ∙ first_before c.in-Some.first.now c.in-Some.others.now c.in-Some.ensures.some.1)

pub returns-in-Some-clause-others : goal.returns-in-Some-clause-others
returns-in-Some-clause-others c =
    sym (ap other_lines c.in-Some.ensures.some.0
    ∙ others_behind c.in-Some.first.now c.in-Some.others.now c.in-Some.ensures.some.1)

pub returns-in-None-clause-first : goal.returns-in-None-clause-first
returns-in-None-clause-first c = sym (first_alone c.args.text.now c.in-None.ensures.none)

pub returns-in-None-clause-others : goal.returns-in-None-clause-others
returns-in-None-clause-others c = sym (none_behind c.args.text.now c.in-None.ensures.none)
