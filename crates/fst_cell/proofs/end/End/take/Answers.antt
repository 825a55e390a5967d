use Rattle.std.proofs.Common.{◌≡◌, ◌+◌, List, [], true, ap, sym, ◌∙◌, subst, refl, arith, Option, Some}
use Rattle.fst_types.specs.Tree.{Tree}
use Rattle.fst_lts.specs.Histories.{after_event}
use Rattle.fst_types.specs.declared.event.Event.{Event}
use Rattle.fst_types.specs.declared.event.Entry.{Entry}
use Rattle.fst_cell.specs.declared.content.Offer.{Offer}
use Rattle.fst_cell.specs.declared.content.Half.{Half}
use Rattle.fst_cell.specs.declared.content.View.TheVariants.{Only}
use Rattle.fst_cell.specs.Rule.{synced}
use Rattle.fst_lts.specs.Residuals.{residual, receives}
use Rattle.fst_lts.specs.Stamps.{next_stamp}
use Rattle.fst_cell.specs.Answers.{longer, entry}
use Rattle.fst_cell.specs.Heads.{GoesOn}
use Rattle.fst_cell.specs.End.{EndView, half_of, residual_of, Seized, Stays, Goes}
use Rattle.fst_cell.proofs.Calling.{same_end}
use Rattle.fst_cell.proofs.Taking.{take_call, moved_on, unchanged, unchanged_word, still}
use Rattle.fst_cell.proofs.end.End.take.Goals as goal

pub overflow_add-stamp : goal.overflow_add-stamp
overflow_add-stamp c =
    let knows : half_of c.self.inside.grip.seat.me.0 ≡ c.args.self.knows = ap (λ (e : EndView). e.knows) c.self.view_is in
    let told = subst (λ (v : Half). Seized v (Some c.in-Some.content) c.seize.new.self.seat.me) knows c.in-Some.ensures.told in
    let call = take_call c.args.self.knows c.args.clock c.in-Some.content c.in-Some-offer.standing c.seize.new.self.seat.me
    c.requires.asks c.requires.clock c.requires.room c.in-Some-offer.is told in
    let fits = call.fits in
    omega arith

pub room-requires : goal.room-requires
room-requires c =
    let knows : half_of c.self.inside.grip.seat.me.0 ≡ c.args.self.knows = ap (λ (e : EndView). e.knows) c.self.view_is in
    let told = subst (λ (v : Half). Seized v (Some c.in-Some.content) c.seize.new.self.seat.me) knows c.in-Some.ensures.told in
    let call = take_call c.args.self.knows c.args.clock c.in-Some.content c.in-Some-offer.standing c.seize.new.self.seat.me
    c.requires.asks c.requires.clock c.requires.room c.in-Some-offer.is told in
    let is : residual c.args.self.knows.side c.args.self.knows.declared c.args.self.knows.history ≡ Some c.self.inside.residual =
    sym (ap (λ (v : Half). residual v.side v.declared v.history) knows) ∙ ap
    (λ s. residual s (half_of c.self.inside.grip.seat.me.0).declared (half_of c.self.inside.grip.seat.me.0).history)
    c.self.invariant.side_is ∙ c.self.invariant.type_is in
    subst (λ (o : Option Tree). receives o c.in-Some-offer.standing.offer.event ≡ true) is call.receives_it

pub give_back-requires-in_default-push-clause-same :
    goal.give_back-requires-in_default-push-clause-same
give_back-requires-in_default-push-clause-same c =
    let knows : half_of c.self.inside.grip.seat.me.0 ≡ c.args.self.knows = ap (λ (e : EndView). e.knows) c.self.view_is in
    let told = subst (λ (v : Half). Seized v (Some c.in-Some.content) c.seize.new.self.seat.me) knows c.in-Some.ensures.told in
    let call = take_call c.args.self.knows c.args.clock c.in-Some.content c.in-Some-offer.standing c.seize.new.self.seat.me
    c.requires.asks c.requires.clock c.requires.room c.in-Some-offer.is told in
    subst (λ (h : List Entry). Stays (half_of c.seize.new.self.seat.me.0)
    (record { declared = c.in-Some.content.declared; history = h; offer = c.in-Some.content.offer }))
    (sym c.in_default-push.ensures.err) call.stays

pub pass_on-requires-clause-next : goal.pass_on-requires-clause-next
pass_on-requires-clause-next c =
    let knows : half_of c.self.inside.grip.seat.me.0 ≡ c.args.self.knows = ap (λ (e : EndView). e.knows) c.self.view_is in
    let told = subst (λ (v : Half). Seized v (Some c.in-Some.content) c.seize.new.self.seat.me) knows c.in-Some.ensures.told in
    let call = take_call c.args.self.knows c.args.clock c.in-Some.content c.in-Some-offer.standing c.seize.new.self.seat.me
    c.requires.asks c.requires.clock c.requires.room c.in-Some-offer.is told in
    let x : Entry = record {
      event = c.in-Ok.kept;
      stamp = 1 + c.max-stamp.result;
      sent = c.in-Some-offer.standing.offer.clock;
      got = c.args.clock;
    } in
    call.passes c.push.new.self x c.in-Ok-push.ensures.ok c.in-Ok.ensures.2 refl refl (omega arith)

pub invariant_of-self-2 : goal.invariant_of-self-2
invariant_of-self-2 c =
    let knows : half_of c.self.inside.grip.seat.me.0 ≡ c.args.self.knows = ap (λ (e : EndView). e.knows) c.self.view_is in
    let told = subst (λ (v : Half). Seized v (Some c.in-Some.content) c.seize.new.self.seat.me) knows c.in-Some.ensures.told in
    let call = take_call c.args.self.knows c.args.clock c.in-Some.content c.in-Some-offer.standing c.seize.new.self.seat.me
    c.requires.asks c.requires.clock c.requires.room c.in-Some-offer.is told in
    let x : Entry = record {
      event = c.in-Ok.kept;
      stamp = 1 + c.max-stamp.result;
      sent = c.in-Some-offer.standing.offer.clock;
      got = c.args.clock;
    } in
    let now = call.told c.push.new.self x c.in-Ok-push.ensures.ok c.pass_on.new.self.seat.me c.pass_on.ensures.told in
    let onward : GoesOn c.self.inside.residual c.in-Some-offer.standing.offer.event c.in-Ok.next = c.in-Ok.ensures.0 in
    moved_on c.args.self.knows _ x c.self.inside.name.side c.self.inside.residual c.go_on.new.t c.self.inside.next
    c.pass_on.new.self.seat.me c.pass_on.ensures.told now.0
    (sym (ap (λ (v : Half). v.side) knows) ∙ c.self.invariant.side_is)
    (sym (ap (λ (v : Half). residual c.self.inside.name.side v.declared v.history) knows) ∙ c.self.invariant.type_is)
    (ap (λ (e : Event). after_event c.self.inside.residual e) c.in-Ok.ensures.2 ∙ onward.0 ∙ ap Some (sym c.go_on.ensures))
    (subst (λ (o : Option Offer). Goes c.self.inside.residual o c.self.inside.next)
    (ap (λ (v : Half). v.offer) knows ∙ call.idle) c.self.invariant.goes)

pub invariant_of-self-in_default-offer : goal.invariant_of-self-in_default-offer
invariant_of-self-in_default-offer c =
    let knows : half_of c.self.inside.grip.seat.me.0 ≡ c.args.self.knows = ap (λ (e : EndView). e.knows) c.self.view_is in
    let told = subst (λ (v : Half). Seized v (Some c.in-Some.content) c.seize.new.self.seat.me) knows c.in-Some.ensures.told in
    let back = c.give_back.ensures.told in
    still c.args.self.knows _ _ _ _ c.self.inside.grip.seat.me c.give_back.new.self.seat.me knows c.self.invariant back
    (unchanged c.args.self.knows c.in-Some.content c.seize.new.self.seat.me c.give_back.new.self.seat.me c.requires.asks told
    back)

pub returns-in_default-offer : goal.returns-in_default-offer
returns-in_default-offer c =
    let knows : half_of c.self.inside.grip.seat.me.0 ≡ c.args.self.knows = ap (λ (e : EndView). e.knows) c.self.view_is in
    let told = subst (λ (v : Half). Seized v (Some c.in-Some.content) c.seize.new.self.seat.me) knows c.in-Some.ensures.told in
    let back = c.give_back.ensures.told in
    record {
      now = same_end _ c.args.self _ (c.give_back.ensures.cell ∙ c.seize.ensures.cell ∙ ap
          (λ (e : EndView). e.cell) c.self.view_is) (ap (λ (e : EndView). e.channel) c.self.view_is)
          (unchanged c.args.self.knows c.in-Some.content c.seize.new.self.seat.me c.give_back.new.self.seat.me c.requires.asks
          told back);
      free = unchanged_word c.args.self.knows c.in-Some.content c.seize.new.self.seat.me c.give_back.new.self.seat.me
          c.requires.asks told back c.in_default-offer.is;
    }

pub invariant_of-self-in_default-room : goal.invariant_of-self-in_default-room
invariant_of-self-in_default-room c =
    let knows : half_of c.self.inside.grip.seat.me.0 ≡ c.args.self.knows = ap (λ (e : EndView). e.knows) c.self.view_is in
    let told = subst (λ (v : Half). Seized v (Some c.in-Some.content) c.seize.new.self.seat.me) knows c.in-Some.ensures.told in
    let back = c.give_back-in_default-room.ensures.told in
    still c.args.self.knows _ _ _ _ c.self.inside.grip.seat.me c.give_back-in_default-room.new.self.seat.me knows c.self.invariant
    back (unchanged c.args.self.knows c.in-Some.content c.seize.new.self.seat.me c.give_back-in_default-room.new.self.seat.me
    c.requires.asks told back)

pub returns-in_default-room : goal.returns-in_default-room
returns-in_default-room c =
    let knows : half_of c.self.inside.grip.seat.me.0 ≡ c.args.self.knows = ap (λ (e : EndView). e.knows) c.self.view_is in
    let told = subst (λ (v : Half). Seized v (Some c.in-Some.content) c.seize.new.self.seat.me) knows c.in-Some.ensures.told in
    let back = c.give_back-in_default-room.ensures.told in
    same_end _ c.args.self _ (c.give_back-in_default-room.ensures.cell ∙ c.seize.ensures.cell ∙ ap
    (λ (e : EndView). e.cell) c.self.view_is) (ap (λ (e : EndView). e.channel) c.self.view_is)
    (unchanged c.args.self.knows c.in-Some.content c.seize.new.self.seat.me c.give_back-in_default-room.new.self.seat.me
    c.requires.asks told back)

pub invariant_of-self-in_default-push : goal.invariant_of-self-in_default-push
invariant_of-self-in_default-push c =
    let knows : half_of c.self.inside.grip.seat.me.0 ≡ c.args.self.knows = ap (λ (e : EndView). e.knows) c.self.view_is in
    let told = subst (λ (v : Half). Seized v (Some c.in-Some.content) c.seize.new.self.seat.me) knows c.in-Some.ensures.told in
    let back = (c.give_back-in_default-push.ensures.told ∙ ap
    (λ (h : List Entry). (
      Only (synced (half_of c.seize.new.self.seat.me.0)
          (record { declared = c.in-Some.content.declared; history = h; offer = c.in-Some.content.offer })),
      [],
    ))
    c.in_default-push.ensures.err) in
    still c.args.self.knows _ _ _ _ c.self.inside.grip.seat.me c.give_back-in_default-push.new.self.seat.me knows c.self.invariant
    back (unchanged c.args.self.knows c.in-Some.content c.seize.new.self.seat.me c.give_back-in_default-push.new.self.seat.me
    c.requires.asks told back)

pub returns-in_default-push : goal.returns-in_default-push
returns-in_default-push c =
    let knows : half_of c.self.inside.grip.seat.me.0 ≡ c.args.self.knows = ap (λ (e : EndView). e.knows) c.self.view_is in
    let told = subst (λ (v : Half). Seized v (Some c.in-Some.content) c.seize.new.self.seat.me) knows c.in-Some.ensures.told in
    let back = (c.give_back-in_default-push.ensures.told ∙ ap
    (λ (h : List Entry). (
      Only (synced (half_of c.seize.new.self.seat.me.0)
          (record { declared = c.in-Some.content.declared; history = h; offer = c.in-Some.content.offer })),
      [],
    ))
    c.in_default-push.ensures.err) in
    same_end _ c.args.self _ (c.give_back-in_default-push.ensures.cell ∙ c.seize.ensures.cell ∙ ap
    (λ (e : EndView). e.cell) c.self.view_is) (ap (λ (e : EndView). e.channel) c.self.view_is)
    (unchanged c.args.self.knows c.in-Some.content c.seize.new.self.seat.me c.give_back-in_default-push.new.self.seat.me
    c.requires.asks told back)

pub returns : goal.returns
returns c =
    let knows : half_of c.self.inside.grip.seat.me.0 ≡ c.args.self.knows = ap (λ (e : EndView). e.knows) c.self.view_is in
    let told = subst (λ (v : Half). Seized v (Some c.in-Some.content) c.seize.new.self.seat.me) knows c.in-Some.ensures.told in
    let call = take_call c.args.self.knows c.args.clock c.in-Some.content c.in-Some-offer.standing c.seize.new.self.seat.me
    c.requires.asks c.requires.clock c.requires.room c.in-Some-offer.is told in
    let x : Entry = record {
      event = c.in-Ok.kept;
      stamp = 1 + c.max-stamp.result;
      sent = c.in-Some-offer.standing.offer.clock;
      got = c.args.clock;
    } in
    let now = call.told c.push.new.self x c.in-Ok-push.ensures.ok c.pass_on.new.self.seat.me c.pass_on.ensures.told in
    let same : c.in-Ok.kept ≡ c.in-Ok.event = c.in-Ok.ensures.2 ∙ sym c.in-Ok.ensures.1 in
    let stamp : 1 + c.max-stamp.result ≡ next_stamp c.in-Some-offer.standing.offer.clock c.args.clock c.in-Some.content.history =
    omega arith in
    record {
      sent = c.in-Some-offer.standing.offer.clock;
      now = same_end _ c.args.self _ (c.pass_on.ensures.cell ∙ c.seize.ensures.cell ∙ ap (λ (e : EndView). e.cell) c.self.view_is)
          (ap (λ (e : EndView). e.channel) c.self.view_is)
          (now.0 ∙ ap (λ (e : Event). longer c.args.self.knows (half_of c.pass_on.new.self.seat.me.0).found
          (entry e (1 + c.max-stamp.result) c.in-Some-offer.standing.offer.clock c.args.clock)) same);
      stamped = stamp ∙ ap (λ (h : List Entry). next_stamp c.in-Some-offer.standing.offer.clock c.args.clock h) (sym call.same);
      received = subst (λ (e : Event). receives (residual_of c.args.self.knows) e ≡ true)
          (sym c.in-Ok.ensures.1) call.receives_it;
      stood = now.1;
    }
