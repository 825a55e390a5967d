use Rattle.std.proofs.Common.{◌⊎◌, refl}
use Rattle.fst_machine.specs.declared.request.Request.TheVariants.{Put}
use Rattle.fst_cell.specs.Answers.{FoundHeld, FoundStanding, IsNoticed}
use Rattle.fst_safety.proofs.Keeping.{asks_it}
use Rattle.fst_safety.proofs.TaskTurns.{held_or_standing, left_turned, sent_takes, sent_turned, now_held_or_standing}
use Rattle.fst_safety.proofs.tasks.TypedTask.learn.Goals as goal

pub go_on-requires-clause-takes : goal.go_on-requires-clause-takes
go_on-requires-clause-takes c =
    let t = c.args.self.now in
    let f = c.requires.fits in
    let by = c.in-Some.ensures in
    ∣ sent_takes c.args.code.now t c.args.name c.args.i c.requires.placed c.notice_at.new.bag.items c.notice_at.new.retired.items
    f.0 f.1 f.2 (λ e f. IsNoticed e c.in-Some.stamp f) by
    c.args.event c.in-Some.stamp c.requires.asks by.by t refl ∣₁

pub returns-in-Ok : goal.returns-in-Ok
returns-in-Ok c = λ a x f.
    let by = c.in-Some.ensures in
    let on = c.in-Ok.ensures.on in
    sent_turned c.args.code.now c.args.self.now c.args.name c.args.i c.requires.placed c.notice_at.new.bag.items
    c.notice_at.new.retired.items a x f (λ e f. IsNoticed e c.in-Some.stamp f) by
    c.args.event c.in-Some.stamp c.requires.asks by.by c.go_on.new.self
    (record { task = on.task; made = on.made; clock = on.clock; log = on.log }) c.in-Ok.ensures.ends.0 c.in-Ok.ensures.ends.1

pub returns-in-None : goal.returns-in-None
returns-in-None c = λ a x f.
    let t = c.args.self.now in
    let k = c.args.code.now in
    let by = c.in-None.ensures.0 in
    let ask = asks_it k a t x f (Put c.args.name c.args.event) c.requires.asks in
    left_turned k a t _ x f c.args.name c.args.i c.requires.placed
    (record { task = refl; made = refl; clock = refl; log = refl; retired = c.in-None.ensures.1 })
    (λ e f. FoundHeld e f ⊎ FoundStanding e f) by
    (Put c.args.name c.args.event) ask refl (now_held_or_standing by.before by.after by.by)
    (held_or_standing by.before by.after by.by)
