use Rattle.std.proofs.Common.{◌∙◌, ap}
use Rattle.fst_code.specs.Marks.{marked}
use Rattle.fst_code.proofs.MarkLaws.{marked_within}
use Rattle.fst_code.proofs.marks.enter.Goals as goal

pub returns-clause-marks : goal.returns-clause-marks
returns-clause-marks c = ap marked c.in_ok-push.ensures.items ∙ marked_within c.args.later.now.items
