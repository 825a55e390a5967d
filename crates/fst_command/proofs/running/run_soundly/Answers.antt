use Rattle.std.specs.String.{string_bytes}
use Rattle.std.proofs.lemmas.Result.{IfOk-weaker}
use Rattle.fst_command.specs.declared.running.Ran.{Ran}
use Rattle.fst_command.specs.Meanings.{IsSoundOutcome}
use Rattle.fst_command.specs.Output.{IsOutcomeOf}
use Rattle.fst_command.proofs.OutcomeLaws.{outcome_sound}
use Rattle.fst_command.proofs.running.run_soundly.Goals as goal

pub returns-clause-sound : goal.returns-clause-sound
returns-clause-sound g c =
    let m = c.args.m.now in
    let o = c.args.options in
    let d = c.requires.derived in
    IfOk-weaker c.run_module.result (λ (r : Ran). IsOutcomeOf o.events o.steps m r.outcome (string_bytes r.lines))
    (λ (r : Ran). IsSoundOutcome m r.outcome)
    (λ (r : Ran) h. outcome_sound c.sound_law.ensures m
    (c.safety_law.ensures m d.derivations d.derived) o.events o.steps r.outcome
    (string_bytes r.lines) h) c.run_module.ensures
