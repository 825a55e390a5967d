use Rattle.fst_command.proofs.CompleteLaws.{are_complete}
use Rattle.fst_command.proofs.run.completeness.Goals as goal

pub returns : goal.returns
returns c =
    are_complete c.one_lexing.ensures c.one_module.ensures c.one_module_law.ensures c.complete_law.ensures.complete
    c.one_reading.ensures
