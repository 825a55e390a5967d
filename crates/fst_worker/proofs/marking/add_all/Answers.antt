use Rattle.std.proofs.Common.{◌≡◌, ◌∙◌, ◌++◌, ◌∷◌, ap, sym, rules}
use Rattle.std.specs.Vec.Iter.{into_iter_items}
use Rattle.fst_process.specs.Marking.{marks_in}
use Rattle.fst_worker.specs.Marking.{all_at}
use Rattle.fst_worker.proofs.JoinedMarks.{added_more}
use Rattle.fst_worker.proofs.marking.add_all.Goals as goal

pub loop-task-preserved : goal.loop-task-preserved
loop-task-preserved c = λ p.
    let is : into_iter_items c.loop-task.task-iterator ≡ c.in-Some.task ∷ into_iter_items c.next.new.self = search rules in
    added_more (marks_in c.loop-task.all.entries p) (marks_in c.add.new.all.entries p)
    (marks_in c.args.all.now.entries p ++ all_at c.args.tasks.items p) c.in-Some.task (into_iter_items c.next.new.self) p
    (c.in_ok-add.ensures p)
    (ap (λ ts. marks_in c.loop-task.all.entries p ++ all_at ts p) (sym is) ∙ c.loop-task.invariant p)
