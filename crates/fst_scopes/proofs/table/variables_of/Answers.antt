use Rattle.std.proofs.Common.{◌≡◌, ◌∙◌, ◌+◌, [], ◌∷◌, ◌++◌, take, ap, sym, arith}
use Rattle.std.proofs.lemmas.List.{take_more, map-append}
use Rattle.fst_types.specs.declared.kind.Kind.{Kind}
use Rattle.fst_terms.specs.declared.binder.Binder.{Binder}
use Rattle.fst_scopes.specs.Twice.{variables}
use Rattle.fst_scopes.proofs.TwiceLaws.{one_noted}
use Rattle.fst_scopes.proofs.table.variables_of.Goals as goal

pub loop-binder-preserved : goal.loop-binder-preserved
loop-binder-preserved c =
    let bs = take c.loop-binder.binder-index c.args.binders.now in
    let b = c.loop-binder-item.result in
    let whole : take (c.loop-binder.binder-index + 1) c.args.binders.now ≡ bs ++ b ∷ [] =
    take_more c.args.binders.now c.loop-binder.binder-index b (omega arith) ∙ ap
    (λ z. bs ++ z ∷ []) (sym c.loop-binder-item.is) in
    one_noted c.args.least.now c.loop-binder.least _ (variables bs) _ b.0 c.loop-binder.names _ c.loop-binder.invariant
    (ap variables whole ∙ map-append (λ (z : Binder × Kind). z.0) bs (b ∷ [])) c.in_ok-note_name.ensures.names
    c.in_ok-note_name.ensures.twice
