use Rattle.std.proofs.Common.{false, sym, subst}
use Rattle.std.specs.String.{string_bytes}
use Rattle.fst_command.specs.Output.{IsOutcomeOf}
use Rattle.fst_command.proofs.running.run_without_events.Goals as goal

pub returns : goal.returns
returns g c =
    let m = c.args.m.now in
    let o = c.args.options in
    let outcome = c.in_ok-found.found in
    subst (λ b. IsOutcomeOf b o.steps m outcome (string_bytes c.new-lines.result)) (sym c.requires.unasked)
    (subst (IsOutcomeOf false o.steps m outcome) (sym c.new-lines.ensures.bytes) c.in_ok-found.ensures)
