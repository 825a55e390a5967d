use Rattle.fst_command.proofs.CheckLaws.{meanings}
use Rattle.fst_command.proofs.run.meanings.Goals as goal

pub returns : goal.returns
returns c =
    meanings c.accepted_law.ensures c.refusal_law.ensures.refused c.one_module_law.ensures c.one_lexing.ensures
    c.one_module.ensures
    c.safety_law.ensures c.complete_law.ensures.complete c.sound_law.ensures c.one_end_law.ensures c.safety_law-2.ensures
    c.sound_law-2.ensures
    c.one_end_law-2.ensures.answers
