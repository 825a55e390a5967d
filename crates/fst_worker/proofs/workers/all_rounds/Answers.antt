use Rattle.std.proofs.Common.{◌++◌, Vec, Global, append-nil, sym, subst}
use Rattle.fst_safety.specs.declared.tasks.TypedTask.{TypedTask}
use Rattle.fst_worker.specs.Working.{AreAtWork}
use Rattle.fst_worker.proofs.workers.all_rounds.Goals as goal
use Rattle.fst_worker.proofs.workers.all_rounds.Goals.{else-loop-test, then-loop-test+in_ok-made+then-ends}

pub loop-init : goal.loop-init
loop-init g c = λ d.
    let k = c.args.code.now in
    let ts = c.in_ok-tasks.tasks.items in
    subst (λ es. AreAtWork k d (ts ++ es)) (sym c.new-ended.ensures.items)
    (subst (AreAtWork k d) (sym (append-nil ts)) (c.in_ok-tasks.ensures d))

pub one_round-requires-clause-run : goal.one_round-requires-clause-run
one_round-requires-clause-run g c κs within = c.loop.invariant

pub loop-preserved : goal.loop-preserved
loop-preserved g c = c.in_ok-made.ensures

pub returns : goal.returns
returns g c = λ d.
    let k = c.args.code.now in
    let AtWork = λ (ts es : Vec TypedTask Global). AreAtWork k d (ts.items ++ es.items) in
    let last : AtWork c.loop-test.tasks c.loop-test.ended = elim c.loop-test.branch [
      | else-loop-test w ↦ subst (λ ts. AtWork ts c.loop-test.ended) (sym w.tasks-is)
          (subst (AtWork c.loop.tasks) (sym w.ended-is) (c.loop.invariant d))
      | then-loop-test+in_ok-made+then-ends w ↦ subst
          (λ ts. AtWork ts c.loop-test.ended) (sym w.tasks-is)
          (subst (AtWork w.in_ok-made.made.tasks) (sym w.ended-is) (w.in_ok-made.ensures d))
    ] in
    subst (AreAtWork k d) (sym c.in_ok-append.ensures.items) last
