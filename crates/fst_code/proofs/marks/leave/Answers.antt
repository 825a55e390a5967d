use Rattle.std.proofs.Common.{◌∙◌, ◌++◌, ap}
use Rattle.std.specs.Option.{option_to_list}
use Rattle.fst_code.specs.Marks.{marked}
use Rattle.fst_code.proofs.MarkLaws.{marked_push}
use Rattle.fst_code.proofs.marks.leave.Goals as goal

pub returns-clause-marks : goal.returns-clause-marks
returns-clause-marks c = ap marked (c.pop.ensures.items ∙ ap (λ o. c.pop.new.self.items ++ option_to_list o) c.unwrap.ensures)
    ∙ marked_push c.pop.new.self.items c.unwrap.result
