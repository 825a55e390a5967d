use Rattle.fst_command.proofs.AnyWorkers.{any_workers}
use Rattle.fst_command.proofs.run.any_workers.Goals as goal

pub returns : goal.returns
returns c = any_workers c.one_output.ensures
