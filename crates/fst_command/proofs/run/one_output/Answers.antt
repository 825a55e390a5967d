use Rattle.fst_command.proofs.OutputLaws.{one_output}
use Rattle.fst_command.proofs.run.one_output.Goals as goal

pub returns : goal.returns
returns c =
    one_output c.one_answer.ensures c.one_lexing.ensures c.one_reading.ensures c.one_module.ensures c.one_module_law.ensures
    c.one_refusal_law.ensures.one c.one_refusal_law.ensures.apart c.accepted_law.ensures c.one_end_law.ensures
    c.one_list_law.ensures c.least_law.ensures
