use Rattle.std.proofs.lemmas.Grind.{merely}
use Rattle.std.proofs.lemmas.Result.{IfOk-weaker}
use Rattle.fst_buffered.specs.Answers.{IsSoundOutcome}
use Rattle.fst_command.specs.Output.{IsBufferedOf}
use Rattle.fst_command.proofs.BufferedLaws.{buffered_sound, can_run, is_buffered}
use Rattle.fst_command.proofs.buffering.run_module.Goals as goal

pub run_buffered-requires-clause-right : goal.run_buffered-requires-clause-right
run_buffered-requires-clause-right c =
    merely (can_run c.safety_law.ensures c.args.options.capacity c.args.m.now c.requires.derived c.in_ok-code.code
    c.in_ok-code.ensures)

pub returns-clause-is : goal.returns-clause-is
returns-clause-is c =
    is_buffered c.safety_law.ensures c.args.options.capacity c.args.m.now c.requires.derived c.in_ok-code.code
    c.in_ok-code.ensures c.args.options.steps c.run_buffered.result c.run_buffered.ensures

pub returns-clause-sound : goal.returns-clause-sound
returns-clause-sound c =
    let m = c.args.m.now in
    let o = c.args.options in
    IfOk-weaker c.run_buffered.result (IsBufferedOf o.capacity o.steps m) (IsSoundOutcome m)
    (λ q h. buffered_sound c.sound_law.ensures m c.requires.derived o.capacity o.steps q h)
    (is_buffered c.safety_law.ensures o.capacity m c.requires.derived c.in_ok-code.code c.in_ok-code.ensures o.steps
    c.run_buffered.result c.run_buffered.ensures)
