use Rattle.fst_command.proofs.OutputLaws.{shown_twice}
use Rattle.fst_command.proofs.run.shown_again.Goals as goal

pub returns : goal.returns
returns c = shown_twice c.read_again.ensures c.one_module.ensures
