use Rattle.std.proofs.Common.{sym, subst}
use Rattle.std.specs.String.{string_bytes}
use Rattle.std.proofs.lemmas.Result.{IfOk-weaker}
use Rattle.fst_command.specs.declared.running.Ran.{Ran}
use Rattle.fst_command.specs.Output.{IsOutcomeOf}
use Rattle.fst_command.specs.Views.{HasLines}
use Rattle.fst_command.proofs.OutcomeLaws.{logged_outcome}
use Rattle.fst_command.proofs.running.run_with_events.Goals as goal

pub returns : goal.returns
returns g c =
    let m = c.args.m.now in
    let o = c.args.options in
    IfOk-weaker c.write_logged.result (λ (r : Ran). HasLines c.in_ok-logged.logged r.outcome (string_bytes r.lines))
    (λ (r : Ran). IsOutcomeOf o.events o.steps m r.outcome (string_bytes r.lines))
    (λ (r : Ran) h. subst (λ b. IsOutcomeOf b o.steps m r.outcome (string_bytes r.lines)) (sym c.requires.asked)
    (logged_outcome o.steps m c.in_ok-code.code c.in_ok-code.ensures c.sorted_law.ensures c.requires.derived
    c.in_ok-logged.logged r.outcome (string_bytes r.lines) c.in_ok-logged.ensures h))
    c.write_logged.ensures
