use Rattle.std.proofs.Common.{◌≡◌, ◌∙◌, ◌≤◌, true, length, Option, Some, sym, ap, subst}
use Rattle.std.specs.Prelude.{option_map, unwrap_or}
use Rattle.fst_types.specs.Tree.{Tree}
use Rattle.fst_types.specs.declared.event.Event.TheVariants.{Label}
use Rattle.fst_cell.specs.declared.content.Half.{Half}
use Rattle.fst_cell.specs.End.{EndView, half_of, residual_of}
use Rattle.fst_cell.specs.Heads.{head}
use Rattle.fst_lts.specs.Residuals.{residual, receives}
use Rattle.fst_cell.proofs.LabelLaws.{within_or, received_within, none_received}
use Rattle.fst_cell.proofs.end.End.longest_label.Goals as goal

pub returns-in-Some : goal.returns-in-Some
returns-in-Some c =
    let knows : half_of c.self.inside.grip.seat.me.0 ≡ c.args.self.now.knows = ap (λ (e : EndView). e.knows) c.self.view_is in
    let is : residual_of c.args.self.now.knows ≡ Some c.self.inside.residual =
    sym (ap (λ (v : Half). residual v.side v.declared v.history) knows) ∙ ap
    (λ s. residual s (half_of c.self.inside.grip.seat.me.0).declared (half_of c.self.inside.grip.seat.me.0).history)
    c.self.invariant.side_is ∙ c.self.invariant.type_is in
    let first : head c.self.inside.residual ≡ Some c.in-Some.first.now = sym c.in_ok-first.ensures
    ∙ ap (option_map (λ h. h.now)) c.in-Some.is in
    λ l h. subst (λ n. length l ≤ n) (sym c.unwrap_or.ensures)
    (received_within c.self.inside.residual c.in-Some.first.now (unwrap_or c.longest_offered.result 0) first
    (within_or c.longest_offered.result c.in-Some.first.now c.longest_offered.ensures.some c.longest_offered.ensures.none) l
    (subst (λ (o : Option Tree). receives o (Label l) ≡ true) is h))

pub returns-in-None : goal.returns-in-None
returns-in-None c =
    let knows : half_of c.self.inside.grip.seat.me.0 ≡ c.args.self.now.knows = ap (λ (e : EndView). e.knows) c.self.view_is in
    let is : residual_of c.args.self.now.knows ≡ Some c.self.inside.residual =
    sym (ap (λ (v : Half). residual v.side v.declared v.history) knows) ∙ ap
    (λ s. residual s (half_of c.self.inside.grip.seat.me.0).declared (half_of c.self.inside.grip.seat.me.0).history)
    c.self.invariant.side_is ∙ c.self.invariant.type_is in
    λ l h. absurd (none_received c.self.inside.residual (sym c.in_ok-first.ensures ∙ ap (option_map (λ h. h.now)) c.in-None.is) l
    (subst (λ (o : Option Tree). receives o (Label l) ≡ true) is h))
