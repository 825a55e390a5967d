use Rattle.fst_process.proofs.TaskLaws.{none_event}
use Rattle.fst_process.proofs.config.Config.event_of.Goals as goal

pub returns-in-None : goal.returns-in-None
returns-in-None c = none_event c.args.self.now c.args.path.now c.in-None.ensures.value
