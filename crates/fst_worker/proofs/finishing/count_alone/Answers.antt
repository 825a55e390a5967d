use Rattle.std.proofs.Common.{◌≡◌, ◌∙◌, ◌+◌, drop, sym, ap, arith}
use Rattle.std.proofs.lemmas.List.{at_drop_all}
use Rattle.std.proofs.lemmas.List.Sums.{sum_by-drop_more}
use Rattle.fst_safety.specs.declared.tasks.TypedTask.{TypedTask}
use Rattle.fst_worker.specs.Finishing.{alone_in, alone_of}
use Rattle.fst_worker.proofs.Counted.{counted_more, counted_no_more, all_counted}
use Rattle.fst_worker.proofs.finishing.count_alone.Goals as goal
use Rattle.fst_worker.proofs.finishing.count_alone.Goals.{then-count-steps, else-count-steps}

pub loop-task-init : goal.loop-task-init
loop-task-init c = record { all = λ l. omega arith; more = λ l. absurd (omega (arith, l)) }

pub loop-task-preserved : goal.loop-task-preserved
loop-task-preserved c =
    let ts = c.args.tasks.now in
    let i = c.loop-task.task-index in
    let n = alone_of ts in
    let left = alone_of (drop i ts) in
    let rest = alone_of (drop (i + 1) ts) in
    let d = c.task-item.result in
    let f = λ (t : TypedTask). alone_in t.log.items in
    let is : left ≡ f d + rest = sum_by-drop_more f ts i d c.loop-task-test.true ∙ ap
    (λ n. n + rest) (sym (ap f c.task-item.is)) in
    elim c.if-count-steps.branch [
      | then-count-steps w ↦ counted_more c.args.steps n left rest
          (f d) c.loop-task.count c.if-count-steps.count c.loop-task.invariant is w.if-count-steps.true
          (w.count-is ∙ ap (λ n. c.loop-task.count + n) (w.count_log-count.ensures.value ∙ ap alone_in w.as_slice.ensures.value))
      | else-count-steps w ↦ counted_no_more c.args.steps n left rest c.loop-task.count c.if-count-steps.count
          c.loop-task.invariant w.if-count-steps.false w.count-is
    ]

pub returns : goal.returns
returns c =
    all_counted c.args.steps (alone_of c.args.tasks.now)
    (alone_of (drop c.loop-task.task-index c.args.tasks.now)) c.loop-task.count
    (at_drop_all alone_of c.args.tasks.now c.loop-task.task-index (omega (arith, c.loop-task-test.false))) c.loop-task.invariant
