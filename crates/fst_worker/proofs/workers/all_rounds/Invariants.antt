use Rattle.std.proofs.Common.{◌++◌}
use Rattle.fst_worker.specs.Working.{IsWholeRun}
use Rattle.fst_worker.proofs.workers.all_rounds.Given as goal

abbrev pub invariant-loop : goal.invariant-loop
invariant-loop g l = IsWholeRun l.code (l.tasks.items ++ l.ended.items)
