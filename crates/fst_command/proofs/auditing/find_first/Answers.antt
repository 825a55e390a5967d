use Rattle.std.proofs.Common.{refl, rules}
use Rattle.fst_command.specs.Audited.{not_utf8}
use Rattle.fst_command.proofs.AuditLaws.{first_found}
use Rattle.fst_command.proofs.auditing.find_first.Goals as goal

pub returns-in-Ok-clause-fault : goal.returns-in-Ok-clause-fault
returns-in-Ok-clause-fault c =
    first_found c.args.text.now c.args.first.now c.find.result c.in-Ok.ensures.cases.1 c.requires.first c.find.ensures.fault

pub returns-in-Err-clause-fault : goal.returns-in-Err-clause-fault
returns-in-Err-clause-fault c = not_utf8 c.valid_up_to.result (search rules) refl
