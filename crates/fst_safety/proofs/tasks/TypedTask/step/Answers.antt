use Rattle.std.proofs.Common.{◌+◌, refl}
use Rattle.fst_safety.proofs.TaskTurns.{refused, step_takes, step_turned}
use Rattle.fst_safety.proofs.tasks.TypedTask.step.Goals as goal

pub go_on-requires-clause-takes : goal.go_on-requires-clause-takes
go_on-requires-clause-takes c =
    let f = c.requires.fits in
    ∣ step_takes c.args.code.now c.args.self.now c.requires.asks f.0 f.1 f.2 (c.args.self.now.clock + 1) refl ∣₁

pub returns-in_default : goal.returns-in_default
returns-in_default c = refused c.args.code.now c.args.self.now c.go_on.new.self _ c.in_default.ensures.back

pub returns : goal.returns
returns c = λ a x f. step_turned c.args.code.now c.args.self.now c.requires.asks a x f
    (c.args.self.now.clock + 1) refl c.go_on.new.self c.in-Ok.ensures.on c.in-Ok.ensures.ends.0 c.in-Ok.ensures.ends.1
