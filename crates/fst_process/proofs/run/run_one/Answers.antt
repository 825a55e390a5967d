use Rattle.std.proofs.Common.{sym, subst}
use Rattle.std.proofs.Math.Logic.{∥∥₁_map}
use Rattle.std.proofs.lemmas.Result.{IfOk-weaker}
use Rattle.fst_process.specs.KeptOf.{kept_of}
use Rattle.fst_process.specs.Runs.{CanRunFrom, IsOutcome, IsOutcomeFrom}
use Rattle.fst_process.proofs.Running.{can_start, can_run_from, answers_begun}
use Rattle.fst_process.proofs.run.run_one.Goals as goal

pub start-requires : goal.start-requires
start-requires c = ∥∥₁_map c.requires.right (can_start c.args.code.now)

pub run_from-requires-clause-right : goal.run_from-requires-clause-right
run_from-requires-clause-right c =
    let code = c.args.code.now in
    let first = kept_of c.in_ok-config.config in
    ∥∥₁_map c.requires.right (λ r. subst (λ n. CanRunFrom code n first) (sym c.in_ok-config.ensures.events)
    (can_run_from code first c.in_ok-config.ensures.begun r))

pub returns : goal.returns
returns c =
    let code = c.args.code.now in
    let first = kept_of c.in_ok-config.config in
    IfOk-weaker c.run_from.result (IsOutcomeFrom code c.in_ok-config.config.events c.args.steps first)
    (IsOutcome code c.args.steps)
    (λ o h. answers_begun code c.args.steps first o c.in_ok-config.ensures.begun
    (subst (λ n. IsOutcomeFrom code n c.args.steps first o) c.in_ok-config.ensures.events h)) c.run_from.ensures
