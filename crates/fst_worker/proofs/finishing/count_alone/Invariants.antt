use Rattle.std.proofs.Common.{drop}
use Rattle.fst_worker.specs.Finishing.{alone_of}
use Rattle.fst_worker.proofs.Counted.{IsLeftUpTo}
use Rattle.fst_worker.proofs.finishing.count_alone.Given as goal

abbrev pub invariant-loop-task : goal.invariant-loop-task
invariant-loop-task l = IsLeftUpTo l.steps (alone_of l.tasks) (alone_of (drop l.task-index l.tasks)) l.count
