use Rattle.fst_command.proofs.AuditedLaws.{audited_twice}
use Rattle.fst_command.proofs.run.audited_again.Goals as goal

pub returns : goal.returns
returns c = audited_twice c.asked_again.ensures c.one_answer.ensures
