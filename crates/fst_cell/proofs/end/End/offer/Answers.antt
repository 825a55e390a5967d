use Rattle.std.proofs.Common.{◌≡◌, ap, sym, ◌∙◌, subst, Some}
use Rattle.fst_cell.specs.declared.content.Half.{Half}
use Rattle.fst_cell.specs.End.{EndView, half_of, Seized}
use Rattle.fst_cell.proofs.Calling.{offer_call, same_end}
use Rattle.fst_cell.proofs.end.End.offer.Goals as goal

pub pass_on-requires-clause-next : goal.pass_on-requires-clause-next
pass_on-requires-clause-next c =
    let knows : half_of c.self.inside.grip.seat.me.0 ≡ c.args.self.knows = ap (λ (e : EndView). e.knows) c.self.view_is in
    let told = subst (λ (v : Half). Seized v (Some c.in-Some.content) c.seize.new.self.seat.me) knows c.in-Some.ensures.told in
    let own = sym (ap (λ (v : Half). v.side) knows) ∙ c.self.invariant.side_is in
    (offer_call c.args.self.knows c.self.inside.name.side
    (record { event = c.args.event; clock = c.args.clock }) c.in-Some.content c.seize.new.self.seat.me own c.requires.idle
    c.requires.sends c.requires.clock c.requires.room told).passes

pub returns : goal.returns
returns c =
    let knows : half_of c.self.inside.grip.seat.me.0 ≡ c.args.self.knows = ap (λ (e : EndView). e.knows) c.self.view_is in
    let told = subst (λ (v : Half). Seized v (Some c.in-Some.content) c.seize.new.self.seat.me) knows c.in-Some.ensures.told in
    let own = sym (ap (λ (v : Half). v.side) knows) ∙ c.self.invariant.side_is in
    let call = offer_call c.args.self.knows c.self.inside.name.side
    (record { event = c.args.event; clock = c.args.clock }) c.in-Some.content c.seize.new.self.seat.me own c.requires.idle
    c.requires.sends c.requires.clock c.requires.room told in
    let now = call.told c.pass_on.new.self.seat.me c.pass_on.ensures.told in
    record {
      now = same_end _ c.args.self _ (c.pass_on.ensures.cell ∙ c.seize.ensures.cell ∙ ap (λ (e : EndView). e.cell) c.self.view_is)
          (ap (λ (e : EndView). e.channel) c.self.view_is) now.0;
      free = now.1;
    }
