use Rattle.std.proofs.Common.{sym, subst, arith}
use Rattle.std.specs.Prelude.{IfOk}
use Rattle.std.proofs.lemmas.Result.{IfOk-weaker}
use Rattle.fst_process.specs.KeptOf.{kept_of}
use Rattle.fst_process.specs.Runs.{CanRunFrom, IsOutcomeFrom}
use Rattle.fst_worker.specs.Finishing.{IsFinished, IsSettled}
use Rattle.fst_worker.proofs.Finished.{can_run, is_answer}
use Rattle.fst_worker.proofs.finishing.finish.Goals as goal

pub returns-in_default : goal.returns-in_default
returns-in_default c = λ d.
    subst (IsSettled c.args.code.now c.args.tasks.items c.args.steps) c.in_default.is c.in_ok-settled.ensures d

pub run_from-requires-clause-right : goal.run_from-requires-clause-right
run_from-requires-clause-right c =
    let k = c.args.code.now in
    let d = c.requires.run in
    let h = subst (IsSettled k c.args.tasks.items c.args.steps) c.in-Some.is c.in_ok-settled.ensures d in
    ∣ subst (λ v. CanRunFrom k v.events (kept_of v)) (sym c.without_logs-config.ensures)
    (can_run k d.main c.args.steps c.in-Some.settled h) ∣₁

pub returns : goal.returns
returns c =
    let k = c.args.code.now in
    let ts = c.args.tasks.items in
    let steps = c.args.steps in
    let s = c.in-Some.settled in
    let so = subst (IsSettled k ts steps) c.in-Some.is c.in_ok-settled.ensures in
    IfOk-weaker c.run_from.result (IsOutcomeFrom k s.config.events steps (kept_of s.config)) (IsFinished k ts steps)
    (λ o out d. is_answer k d.main steps s (so d) d.begins (omega (arith, c.requires.few)) o out)
    (subst (λ v. IfOk c.run_from.result (IsOutcomeFrom k v.events steps (kept_of v))) c.without_logs-config.ensures
    c.run_from.ensures)
