use Rattle.std.proofs.Common.{arith}
use Rattle.std.proofs.lemmas.Result.{IfOk-weaker}
use Rattle.fst_worker.specs.Finishing.{IsFinished}
use Rattle.fst_worker.specs.Working.{IsOnRecord, IsWorkedOut}
use Rattle.fst_worker.proofs.Leasts.{least_answers}
use Rattle.fst_worker.proofs.Working.{runs}
use Rattle.fst_worker.proofs.workers.run_workers.Goals as goal

pub finish-requires-clause-run : goal.finish-requires-clause-run
finish-requires-clause-run g c =
    let d = c.requires.right in
    runs c.args.code.now d c.in_ok-tasks.tasks.items (c.in_ok-tasks.ensures d)

pub returns-clause-recorded : goal.returns-clause-recorded
returns-clause-recorded g c =
    let k = c.args.code.now in
    let ts = c.in_ok-tasks.tasks.items in
    IfOk-weaker c.finish.result (IsFinished k ts c.args.steps) (IsOnRecord k c.args.steps)
    (λ o out d. out (runs k d ts (c.in_ok-tasks.ensures d))) c.finish.ensures

pub returns-clause-answer : goal.returns-clause-answer
returns-clause-answer g c =
    let k = c.args.code.now in
    let ts = c.in_ok-tasks.tasks.items in
    IfOk-weaker c.finish.result (IsFinished k ts c.args.steps) (IsWorkedOut k c.args.steps)
    (λ o out d. least_answers k.module.value d.code.derivations d.code.derived d.main d.body c.args.steps o
    (omega (arith, c.requires.few)) (out (runs k d ts (c.in_ok-tasks.ensures d)))) c.finish.ensures
