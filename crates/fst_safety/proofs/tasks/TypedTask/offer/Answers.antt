use Rattle.std.proofs.Common.{◌≡◌, Ok, ap, sym, ◌∙◌, subst, inl, refl}
use Rattle.fst_machine.specs.declared.request.Request.TheVariants.{Put}
use Rattle.fst_cell.specs.Answers.{FoundHeld, IsOffered}
use Rattle.fst_cell.specs.End.{EndView, residual_of}
use Rattle.fst_lts.specs.Residuals.{sends}
use Rattle.fst_safety.specs.Bags.{OffersAt}
use Rattle.fst_safety.proofs.Keeping.{asks_it}
use Rattle.fst_safety.proofs.TaskTurns.{may_offer, left_turned, offered_turned, same_turned}
use Rattle.fst_safety.proofs.tasks.TypedTask.offer.Goals as goal

pub offer_at-requires-clause-may : goal.offer_at-requires-clause-may
offer_at-requires-clause-may c = λ d.
    let f = c.requires.fits in
    may_offer c.args.code.now f.0 c.args.self.now f.1 f.2 c.args.name c.args.event c.args.i c.requires.asks c.requires.placed
    c.requires.clock d (c.requires.idle d)

pub returns-in-Ok-true : goal.returns-in-Ok-true
returns-in-Ok-true c = λ a x f.
    let t = c.args.self.now in
    let k = c.args.code.now in
    let ev = c.args.event in
    let ask = asks_it k a t x f (Put c.args.name ev) c.requires.asks in
    let by = subst (λ b. OffersAt t.bag.items c.args.i ev t.clock (Ok b) c.offer_at.new.bag.items) c.in-Ok-true.field-0-test
    c.in-Ok-true.ensures in
    let may = may_offer k a t x f c.args.name ev c.args.i c.requires.asks c.requires.placed c.requires.clock by.before
    (c.requires.idle by.before) in
    offered_turned k a t _ x f c.args.name c.args.i c.requires.placed
    (record { task = refl; made = refl; clock = refl; log = refl; retired = refl })
    (λ e f. IsOffered e ev t.clock f) by ev ask
    (ap (λ (e : EndView). e.knows.offer) (sym (by.at by.before)) ∙ may.idle)
    (ap (λ (e : EndView). sends (residual_of e.knows) ev) (sym (by.at by.before)) ∙ may.sends) by.by

pub returns-in-Ok-false : goal.returns-in-Ok-false
returns-in-Ok-false c = λ a x f.
    let t = c.args.self.now in
    let k = c.args.code.now in
    let ev = c.args.event in
    let ask = asks_it k a t x f (Put c.args.name ev) c.requires.asks in
    let by = subst (λ b. OffersAt t.bag.items c.args.i ev t.clock (Ok b) c.offer_at.new.bag.items) c.in-Ok-false.field-0-test
    c.in-Ok-false.ensures in
    left_turned k a t _ x f c.args.name c.args.i c.requires.placed
    (record { task = refl; made = refl; clock = refl; log = refl; retired = refl }) FoundHeld by
    (Put c.args.name ev) ask refl by.by.now (inl by.by)

pub returns-in-Err : goal.returns-in-Err
returns-in-Err c = λ a x f.
    let t = c.args.self.now in
    let by = c.in-Err.ensures in
    same_turned c.args.code.now a t _ x f c.args.name c.args.i c.requires.placed
    (record { task = refl; made = refl; clock = refl; log = refl; retired = refl }) (λ e f. f ≡ e) by c.in-Err.e by.by
