use Rattle.std.proofs.Common.{refl, rules}
use Rattle.fst_command.specs.Audited.{bad_line}
use Rattle.fst_command.proofs.auditing.answer_bad_line.Goals as goal

pub returns-in-Ok-clause-says : goal.returns-in-Ok-clause-says
returns-in-Ok-clause-says c = bad_line c.in-Ok.ensures.small c.args.k c.requires.bad (search rules) refl
