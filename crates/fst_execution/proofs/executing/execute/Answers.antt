use Rattle.std.proofs.lemmas.Grind.{merely}
use Rattle.std.proofs.lemmas.Result.{IfOk-weaker}
use Rattle.fst_process.specs.Runs.{IsOutcome}
use Rattle.fst_execution.specs.Execution.{IsExecuted}
use Rattle.fst_execution.proofs.ExecutionLaws.{can_run, is_executed}
use Rattle.fst_execution.proofs.executing.execute.Goals as goal

pub run_one-requires-clause-right : goal.run_one-requires-clause-right
run_one-requires-clause-right c =
    let m = c.args.m.now in
    let x = c.requires.derived in
    merely (can_run m c.in_ok-code.code c.in_ok-code.ensures.from (c.safety_law.ensures m x.derivations x.derived))

pub returns : goal.returns
returns c =
    let m = c.args.m.now in
    let x = c.requires.derived in
    let code = c.in_ok-code.code in
    IfOk-weaker c.run_one.result (IsOutcome code c.args.steps) (IsExecuted m c.args.steps)
    (λ o h. is_executed m code c.args.steps o c.in_ok-code.ensures.from (c.safety_law.ensures m x.derivations x.derived) h)
    c.run_one.ensures
