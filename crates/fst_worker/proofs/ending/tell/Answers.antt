use Rattle.std.proofs.Common.{◌≡◌, ◌∙◌, [], ◌∷◌, ◌++◌, sym, ap, subst}
use Rattle.std.proofs.lemmas.List.Elements.{All-contains}
use Rattle.fst_lts.specs.Histories.{last_stamp}
use Rattle.fst_types.specs.declared.ends.EndName.{EndName}
use Rattle.fst_cell.specs.declared.answers.Closed.{Closed}
use Rattle.fst_worker.specs.Ending.{TellsWaiting}
use Rattle.fst_worker.proofs.Stripped.{has_next, none_waits, channel_there, stays_so, stands_so, lacks_so, takes_sent, told_so}
use Rattle.fst_worker.proofs.ending.tell.Goals as goal

pub returns-in_default : goal.returns-in_default
returns-in_default c = λ d.
    let none = subst (TellsWaiting d.thread.bag) c.in_default.is d.bare.waits in
    stays_so c.args.code.now c.args.closed.now d.run d.thread d.there c.args.bare.task c.args.bare.clock _ d.bare.task
    (c.in_ok-path.ensures ∙ c.path.ensures) d.bare.log
    (none_waits c.args.code.now c.args.closed.now d.run d.thread d.there none)

pub unreachable-requires : goal.unreachable-requires
unreachable-requires c =
    let d = c.requires.can in
    let w = subst (TellsWaiting d.thread.bag) c.in-Some.is d.bare.waits in
    let e = channel_there c.args.code.now c.args.closed.now d.run d.thread d.there w.0 w.1 in
    All-contains (λ (h : Closed). ¬ (h.history.name ≡ c.in-Some.name.channel)) c.args.closed.now e.0
    c.in_default-closed_at.ensures e.1
    (e.2 ∙ ap (λ (z : EndName). z.channel) w.2)

pub returns-then-stands : goal.returns-then-stands
returns-then-stands c = λ d.
    let w = subst (TellsWaiting d.thread.bag) c.in-Some.is d.bare.waits in
    let h = c.in-Some-closed_at.ensures in
    stands_so c.args.code.now c.args.closed.now d.run d.thread d.there c.args.bare.task c.args.bare.clock _ d.bare.task
    (c.in_ok-path.ensures ∙ c.path.ensures) d.bare.log c.in-Some.name w c.in-Some-closed_at.channel.now h.1 h.0
    (sym c.stands.ensures ∙ c.if-stands.true)

pub advance-requires : goal.advance-requires
advance-requires c =
    let d = c.requires.can in
    ∣ has_next c.args.code.now c.args.closed.now d.run d.thread d.there c.args.bare.task c.args.bare.clock d.bare.task ∣₁

pub resume-requires : goal.resume-requires
resume-requires c =
    let d = c.requires.can in
    let w = subst (TellsWaiting d.thread.bag) c.in-Some.is d.bare.waits in
    let h = c.in-Some-closed_at.ensures in
    let z = c.in-Some-closed_at.channel.now in
    let l = lacks_so c.args.code.now c.args.closed.now d.run d.thread d.there c.in-Some.name w z h.1 h.0
    (sym c.stands.ensures ∙ c.if-stands.false) in
    ∣ takes_sent c.args.code.now c.args.closed.now d.run d.thread d.there c.in-Some.name z l c.args.bare.task c.advance.new.self
    c.args.bare.clock d.bare.task
    c.advance.ensures.stays c.in-Ok.ensures.rests ∣₁

pub returns : goal.returns
returns c = λ d.
    let w = subst (TellsWaiting d.thread.bag) c.in-Some.is d.bare.waits in
    let h = c.in-Some-closed_at.ensures in
    let z = c.in-Some-closed_at.channel.now in
    let l = lacks_so c.args.code.now c.args.closed.now d.run d.thread d.there c.in-Some.name w z h.1 h.0
    (sym c.stands.ensures ∙ c.if-stands.false) in
    let g = c.in_ok-new.field-0 in
    told_so c.args.code.now c.args.closed.now d.run d.thread d.there c.in-Some.name z l c.args.bare.task c.advance.new.self
    c.resume.new.self c.args.bare.clock d.bare.task
    c.advance.ensures.stays c.in-Ok-resume.ensures.goes_on c.latest-stamp.result
    (c.latest-stamp.ensures ∙ ap last_stamp c.as_slice.ensures.value)
    c.in-Ok.asked c.in-Ok.ensures.asked g c.in_ok-new.ensures _ (c.in_ok-path.ensures ∙ c.path.ensures)
    (c.in_ok-push.ensures.items ∙ ap (λ es. es ++ g ∷ []) d.bare.log)
