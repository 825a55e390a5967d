use Rattle.fst_type_print.specs.Texts.{family_names}
use Rattle.fst_command.proofs.CheckLaws.{some_answer}
use Rattle.fst_command.proofs.refusals.answer_refusal.Goals as goal

pub returns-clause-some : goal.returns-clause-some
returns-clause-some c = some_answer c.in_ok-cause.cause
    (family_names c.args.families.now) c.args.fault c.answer_cause.result c.in_ok-cause.ensures
