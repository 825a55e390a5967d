use Rattle.std.proofs.Common.{◌≡◌, ◌++◌}
use Rattle.std.specs.Vec.Iter.{into_iter_items}
use Rattle.fst_runs.specs.Configs.{Path}
use Rattle.fst_process.specs.Marking.{marks_in}
use Rattle.fst_worker.specs.Marking.{all_at}
use Rattle.fst_worker.proofs.marking.add_all.Given as goal

abbrev pub invariant-loop-task : goal.invariant-loop-task
invariant-loop-task l =
    (p : Path) → marks_in l.all.entries p ++ all_at (into_iter_items l.task-iterator) p
    ≡ marks_in l.fn.all.entries p ++ all_at l.fn.tasks.items p
