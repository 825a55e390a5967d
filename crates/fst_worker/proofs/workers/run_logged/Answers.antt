use Rattle.std.proofs.Common.{arith}
use Rattle.std.proofs.lemmas.Result.{IfOk-weaker}
use Rattle.fst_worker.specs.Finishing.{IsLogged}
use Rattle.fst_worker.specs.Working.{IsLoggedOut}
use Rattle.fst_worker.proofs.LoggedRuns.{logged_out}
use Rattle.fst_worker.proofs.Working.{runs}
use Rattle.fst_worker.proofs.workers.run_logged.Goals as goal

pub finish_logged-requires-clause-run : goal.finish_logged-requires-clause-run
finish_logged-requires-clause-run g c =
    let d = c.requires.right in
    runs c.args.code.now d c.in_ok-tasks.tasks.items (c.in_ok-tasks.ensures d)

pub returns : goal.returns
returns g c =
    let k = c.args.code.now in
    let ts = c.in_ok-tasks.tasks.items in
    IfOk-weaker c.finish_logged.result (IsLogged k ts c.args.steps) (IsLoggedOut k c.args.steps)
    (logged_out k ts c.args.steps c.in_ok-tasks.ensures (omega (arith, c.requires.few))) c.finish_logged.ensures
