use Rattle.std.proofs.Common.{◌≡◌, ap, sym, ◌∙◌, subst, refl, Option, Some, None}
use Rattle.fst_types.specs.declared.side.Side.{Side}
use Rattle.fst_lts.specs.Histories.{after_event}
use Rattle.fst_types.specs.declared.event.Event.{Event}
use Rattle.fst_cell.specs.declared.content.Offer.{Offer}
use Rattle.fst_cell.specs.declared.content.Half.{Half}
use Rattle.fst_cell.specs.declared.heads.Next.{Next}
use Rattle.fst_lts.specs.Residuals.{residual}
use Rattle.fst_cell.specs.Rule.{stands_for}
use Rattle.fst_cell.specs.Heads.{GoesOn}
use Rattle.fst_cell.specs.End.{EndView, half_of, Seized, IsEnd, Goes}
use Rattle.fst_cell.proofs.Calling.{same_end}
use Rattle.fst_cell.proofs.Taking.{moved_on}
use Rattle.fst_cell.proofs.Noticing.{noticing, some_of}
use Rattle.fst_cell.proofs.end.End.notice.Goals as goal

pub invariant_of-self-2 : goal.invariant_of-self-2
invariant_of-self-2 c =
    let knows : half_of c.self.inside.grip.seat.me.0 ≡ c.args.self.knows = ap (λ (e : EndView). e.knows) c.self.view_is in
    let told = subst (λ (v : Half). Seized v (Some c.in-Some.content) c.seize.new.self.seat.me) knows c.in-Some.ensures.told in
    let own : c.args.self.knows.side ≡ c.self.inside.name.side = sym (ap (λ (v : Half). v.side) knows)
    ∙ c.self.invariant.side_is in
    let offer = some_of c.args.self.knows.offer c.requires in
    let none = ap (λ (s : Side). stands_for s c.in-Some.content.offer) own ∙ c.if-stands.ensures.no refl in
    let gone = (noticing c.args.self.knows c.in-Some.content c.seize.new.self.seat.me c.give_back.new.self.seat.me offer.0 offer.1
    told c.give_back.ensures.told).gone none in
    let goes = subst (λ (o : Option Offer). Goes c.self.inside.residual o c.self.inside.next)
    (ap (λ (v : Half). v.offer) knows ∙ offer.1) c.self.invariant.goes in
    let onward : GoesOn c.self.inside.residual offer.0.event c.in-Some-take.next =
    subst (λ (n : Option Next). Goes c.self.inside.residual (Some offer.0) n) (sym c.in-Some-take.ensures.value) goes in
    subst (λ (n : Option Next). IsEnd c.give_back.new.self.seat.me c.self.inside.name.side c.go_on.new.t n)
    (sym c.in-Some-take.ensures.after)
    (moved_on c.args.self.knows _ gone.0 c.self.inside.name.side c.self.inside.residual c.go_on.new.t None
    c.give_back.new.self.seat.me c.give_back.ensures.told gone.1 own
    (sym (ap (λ (v : Half). residual c.self.inside.name.side v.declared v.history) knows) ∙ c.self.invariant.type_is)
    (ap (λ (k : Event). after_event c.self.inside.residual k) gone.2 ∙ onward.0 ∙ ap Some (sym c.go_on.ensures))
    tt)

pub returns : goal.returns
returns c =
    let knows : half_of c.self.inside.grip.seat.me.0 ≡ c.args.self.knows = ap (λ (e : EndView). e.knows) c.self.view_is in
    let told = subst (λ (v : Half). Seized v (Some c.in-Some.content) c.seize.new.self.seat.me) knows c.in-Some.ensures.told in
    let own : c.args.self.knows.side ≡ c.self.inside.name.side = sym (ap (λ (v : Half). v.side) knows)
    ∙ c.self.invariant.side_is in
    let offer = some_of c.args.self.knows.offer c.requires in
    let none = ap (λ (s : Side). stands_for s c.in-Some.content.offer) own ∙ c.if-stands.ensures.no refl in
    let gone = (noticing c.args.self.knows c.in-Some.content c.seize.new.self.seat.me c.give_back.new.self.seat.me offer.0 offer.1
    told c.give_back.ensures.told).gone none in
    let stamp = gone.4 ∙ sym c.last_stamp-stamp.ensures in
    record {
      taken = gone.0;
      offer = offer.1 ∙ (λ i. Some (record { event = sym gone.2 i; clock = sym gone.3 i }));
      now = same_end _ c.args.self _ (c.give_back.ensures.cell ∙ c.seize.ensures.cell ∙ ap
          (λ (e : EndView). e.cell) c.self.view_is) (ap (λ (e : EndView). e.channel) c.self.view_is) gone.1;
      stamp_is = stamp;
      stamped = sym stamp ∙ gone.5;
    }
