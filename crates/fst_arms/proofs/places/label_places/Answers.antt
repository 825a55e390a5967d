use Rattle.std.proofs.Common.{◌≡◌, ◌∙◌, ◌<◌, ◌-◌, ◌∷◌, suc, length, drop, sym, ap, subst, arith, drop-cons}
use Rattle.fst_arms.proofs.PlaceLaws.{ArePlacesFrom, offered_at, places_put}
use Rattle.fst_arms.proofs.places.label_places.Goals as goal

pub returns-in-None : goal.returns-in-None
returns-in-None c = λ names e.
    let here = offered_at c.args.labels.now names (c.loop-n.n - 1) c.index-labels-n.result e (omega arith) in
    c.in-None.ensures here.0 (c.index-labels-n.is ∙ here.1)

pub loop-n-preserved : goal.loop-n-preserved
loop-n-preserved c =
    let labels = c.args.labels.now in
    let n = c.loop-n.n - 1 in
    let before = c.loop-n.invariant in
    let y = c.in-Some.name.now in
    let next : suc n ≡ c.loop-n.n = omega arith in
    let lt : n < length labels = omega arith in
    let whole = drop-cons labels n c.index-labels-n.result lt in (
      y ∷ before.0,
      whole ∙ (λ i. (sym c.index-labels-n.is ∙ c.in-Some.ensures) i ∷ (ap (λ k. drop k labels) next ∙ before.1) i),
      places_put n y before.0 c.loop-n.places.entries c.put.new.places.entries
          (subst (λ k. ArePlacesFrom k before.0 c.loop-n.places.entries) (sym next) before.2) c.in_ok-put-in-Some.ensures,
    )
