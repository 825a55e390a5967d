use Rattle.std.proofs.Common.{◌++◌, ◌∙◌, List, ap, sym}
use Rattle.fst_runs.specs.declared.event.Stamped.{Stamped}
use Rattle.fst_records.specs.Gathering.{gathered}
use Rattle.fst_merge.specs.Receipts.{parts_of_task}
use Rattle.fst_merge.proofs.Gathered.{tasks_more}
use Rattle.fst_merge.proofs.merging.gather.Goals as goal

pub loop-task-preserved : goal.loop-task-preserved
loop-task-preserved c = λ all found.
    let t = c.task-item.result in
    c.in_ok-add_task.ensures all found
    ∙ ap (λ (es : List Stamped). es ++ gathered all (parts_of_task t)) (c.loop-task.invariant all found)
    ∙ sym (tasks_more all c.args.tasks.now c.loop-task.task-index t c.loop-task-test.true c.task-item.is)
