use Rattle.std.proofs.lemmas.Result.{IfOk-weaker}
use Rattle.std.proofs.Common.{[], false}
use Rattle.fst_execution.specs.Execution.{IsExecuted}
use Rattle.fst_command.specs.Output.{IsOutcomeOf}
use Rattle.fst_command.proofs.OutcomeLaws.{least_outcome}
use Rattle.fst_command.proofs.running.outcome.Goals as goal

pub returns-then-options-eq1 : goal.returns-then-options-eq1
returns-then-options-eq1 g c =
    let m = c.args.m.now in
    let o = c.args.options in
    IfOk-weaker c.execute.result (IsExecuted m o.steps) (λ x. IsOutcomeOf false o.steps m x [])
    (λ x h. least_outcome o.steps m x h) c.execute.ensures
