use Rattle.std.proofs.Common.{refl}
use Rattle.fst_safety.proofs.TaskStarts.{begun}
use Rattle.fst_safety.proofs.tasks.TypedTask.start.Goals as goal

pub returns : goal.returns
returns c = begun c.args.code.now _ c.in_ok-task.ensures refl refl c.new-3.ensures.items c.new.ensures.items c.new-2.ensures.items
