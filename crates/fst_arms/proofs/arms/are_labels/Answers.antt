use Rattle.std.proofs.Common.{◌≡◌, ◌∙◌, ℕ, List, sym, subst, map}
use Rattle.std.proofs.lemmas.Option.{MatchOption-at_some}
use Rattle.fst_types.specs.declared.label.Label.TheVariants.{Offer}
use Rattle.fst_arms.specs.Places.{ArePlaces}
use Rattle.fst_arms.proofs.PlaceLaws.{same_names}
use Rattle.fst_arms.proofs.arms.are_labels.Goals as goal

pub returns-in-Some-clause-each_once : goal.returns-in-Some-clause-each_once
returns-in-Some-clause-each_once c = λ names e.
    let found = MatchOption-at_some ((ns : List (List ℕ)) → c.args.labels.now ≡ map Offer ns → ⊥)
    (λ places. (ns : List (List ℕ)) × (c.args.labels.now ≡ map Offer ns) × ArePlaces ns places.entries)
    c.in-Some.places c.in-Some.is c.in_ok-places.ensures in
    let same : found.0 ≡ names = same_names found.0 names (sym found.1 ∙ e) in
    c.are_each_once.ensures names (subst (λ ns. ArePlaces ns c.in-Some.places.entries) same found.2)
