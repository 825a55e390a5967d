use Rattle.std.proofs.Common.{◌≡◌, ◌∙◌, ◌⊎◌, Ok, sym, ap, subst, refl}
use Rattle.fst_machine.specs.declared.request.Request.TheVariants.{Get}
use Rattle.fst_types.specs.declared.event.Event.TheVariants.{Label}
use Rattle.fst_cell.specs.Answers.{FoundHeld, FoundNothing, IsTaken, end_with}
use Rattle.fst_cell.specs.End.{EndView, residual_of}
use Rattle.fst_lts.specs.Residuals.{receives}
use Rattle.fst_cell.specs.Rule.{tried}
use Rattle.fst_safety.specs.Bags.{TakesAt}
use Rattle.fst_safety.proofs.Keeping.{asks_it}
use Rattle.fst_safety.proofs.TaskTurns.{got_takes, got_turned, held_or_nothing, left_turned, may_take, now_held_or_nothing, want_turned}
use Rattle.fst_safety.proofs.tasks.TypedTask.take.Goals as goal

pub take_at-requires-clause-may : goal.take_at-requires-clause-may
take_at-requires-clause-may c = λ d.
    let f = c.requires.fits in
    may_take c.args.code.now f.0 c.args.self.now f.1 f.2 c.args.name c.args.i c.requires.asks c.requires.placed c.requires.clock d

pub copy_into-requires-clause-large : goal.copy_into-requires-clause-large
copy_into-requires-clause-large c = λ l is.
    let t = c.args.self.now in
    let by = subst (λ o. TakesAt t.bag.items t.retired.items c.args.i t.clock
    (Ok o) c.take_at.new.bag.items c.take_at.new.retired.items) c.in-Ok-Some.field-0-is c.in-Ok-Some.ensures in
    c.requires.large by.before l
    (ap (λ (e : EndView). receives (residual_of e.knows) (Label l)) (by.at by.before)
    ∙ ap (receives (residual_of by.before.knows)) (sym is) ∙ by.by.received)

pub go_on-requires-clause-takes : goal.go_on-requires-clause-takes
go_on-requires-clause-takes c =
    let t = c.args.self.now in
    let f = c.requires.fits in
    let by = subst (λ o. TakesAt t.bag.items t.retired.items c.args.i t.clock
    (Ok o) c.take_at.new.bag.items c.take_at.new.retired.items) c.in-Ok-Some.field-0-is c.in-Ok-Some.ensures in
    ∣ got_takes c.args.code.now t c.args.name c.args.i c.requires.placed c.take_at.new.bag.items c.take_at.new.retired.items f.0
    f.1 f.2
    (λ e f. IsTaken e t.clock c.in-Ok-Some.event c.in-Ok-Some.stamp f) by c.in-Ok-Some.event c.in-Ok-Some.stamp c.requires.asks
    by.by t refl ∣₁

pub returns-in-Ok : goal.returns-in-Ok
returns-in-Ok c = λ a x f.
    let t = c.args.self.now in
    let by = subst (λ o. TakesAt t.bag.items t.retired.items c.args.i t.clock
    (Ok o) c.take_at.new.bag.items c.take_at.new.retired.items) c.in-Ok-Some.field-0-is c.in-Ok-Some.ensures in
    let on = c.in-Ok.ensures.on in
    got_turned c.args.code.now t c.args.name c.args.i c.requires.placed c.take_at.new.bag.items c.take_at.new.retired.items a x f
    (λ e f. IsTaken e t.clock c.in-Ok-Some.event c.in-Ok-Some.stamp f) by c.in-Ok-Some.event c.in-Ok-Some.stamp c.requires.asks
    by.by c.go_on.new.self
    (record { task = on.task; made = on.made; clock = on.clock; log = on.log }) c.in-Ok.ensures.ends.0 c.in-Ok.ensures.ends.1

pub returns-in-Ok-None : goal.returns-in-Ok-None
returns-in-Ok-None c = λ a x f.
    let t = c.args.self.now in
    let k = c.args.code.now in
    let told = subst (λ o. TakesAt t.bag.items t.retired.items c.args.i t.clock
    (Ok o) c.take_at.new.bag.items c.take_at.new.retired.items) c.in-Ok-None.field-0-is c.in-Ok-None.ensures in
    let by = told.0 in
    let ask = asks_it k a t x f (Get c.args.name) c.requires.asks in
    left_turned k a t _ x f c.args.name c.args.i c.requires.placed
    (record { task = refl; made = refl; clock = refl; log = refl; retired = told.1 })
    (λ e f. FoundHeld e f ⊎ FoundNothing e f) by
    (Get c.args.name) ask refl (now_held_or_nothing by.before by.after by.by) (held_or_nothing by.before by.after by.by)

pub returns-in-Err : goal.returns-in-Err
returns-in-Err c = λ a x f.
    let by = c.in-Err.ensures.0 in
    want_turned c.args.code.now a c.args.self.now _ x f c.args.name c.args.i c.requires.placed
    (record { task = refl; made = refl; clock = refl; log = refl; retired = c.in-Err.ensures.1 })
    (λ e f. f ≡ end_with e (tried e.knows f.knows.found)) by c.in-Err.e by.by
