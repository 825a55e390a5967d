use Rattle.std.proofs.Common.{rules, ◌≡◌, ℕ, ◌∷◌, refl, ap, sym, ◌∙◌, subst, List, Option, Some}
use Rattle.atomic_table.specs.Table.{rest}
use Rattle.fst_cell.specs.declared.content.Content.{Content}
use Rattle.fst_cell.specs.declared.content.Half.{Half}
use Rattle.fst_cell.specs.Rule.{Sound, Fits}
use Rattle.fst_cell.specs.End.{EndView, half_of}
use Rattle.fst_cell.proofs.Joined.{joined_idle, tries_joined, last_of, last_holds, last_content, shown, closes}
use Rattle.fst_cell.proofs.closing.close.Goals.{in-Some-offer, in-None}
use Rattle.fst_cell.proofs.closing.close.Goals as goal

pub fetch_or-requires : goal.fetch_or-requires
fetch_or-requires c =
    let j = joined_idle _ _ _ c.left.invariant.idle c.right.invariant.idle c.join_seat.ensures.2 in
    (search rules, search rules, tries_joined _ _ _ _ _ c.left.invariant.idle.free c.right.invariant.idle.free j)

pub exchange-content-requires : goal.exchange-content-requires
exchange-content-requires c =
    let j = joined_idle _ _ _ c.left.invariant.idle c.right.invariant.idle c.join_seat.ensures.2 in
    let w = last_of _ _ _ c.fetch_or.new.seat.me _ j c.fetch_or.ensures.2 in
    let e = last_holds _ _ _ _ w in
    (search rules, (Some w.content, e ∙ ap (λ (l : List (ℕ × Option Content)). (0, Some w.content) ∷ rest l) (sym e)))

pub returns : goal.returns
returns c =
    let j = joined_idle _ _ _ c.left.invariant.idle c.right.invariant.idle c.join_seat.ensures.2 in
    let w = last_of _ _ _ c.fetch_or.new.seat.me _ j c.fetch_or.ensures.2 in
    let is = last_content _ _ _ _ w _ c.in-Some.content c.exchange-content.ensures.2 c.in-Some.is in
    let left : half_of c.left.inside.grip.seat.me.0 ≡ c.args.left.knows = ap (λ (e : EndView). e.knows) c.left.view_is in
    let right : half_of c.right.inside.grip.seat.me.0 ≡ c.args.right.knows = ap (λ (e : EndView). e.knows) c.right.view_is in
    let offered : c.match-offer.offered ≡ shown c.in-Some.content.offer =
    elim c.match-offer.branch [
      | in-Some-offer v ↦ v.offered-is ∙ ap shown (sym v.in-Some-offer.is)
      | in-None v ↦ v.offered-is
          ∙ ap shown (sym v.in-None.is)
    ] in
    closes c.args.left.channel c.in-Some.content c.args.left.knows c.args.right.knows _
    (ap (λ (e : EndView). e.channel) c.left.view_is)
    refl
    c.into_items.ensures
    offered
    c.requires.sides.0
    c.requires.sides.1
    (subst (λ (x : Content). Sound x) is w.sound)
    (subst (λ (v : Half). Fits c.in-Some.content v) left
    (subst (λ (x : Content). Fits x (half_of c.left.inside.grip.seat.me.0)) is w.left))
    (subst (λ (v : Half). Fits c.in-Some.content v) right
    (subst (λ (x : Content). Fits x (half_of c.right.inside.grip.seat.me.0)) is w.right))
