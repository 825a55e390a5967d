use Rattle.std.proofs.Common.{◌≡◌, ℕ, List, map, drop}
use Rattle.fst_types.specs.declared.label.Label.TheVariants.{Offer}
use Rattle.fst_arms.proofs.PlaceLaws.{ArePlacesFrom}
use Rattle.fst_arms.proofs.places.label_places.Given as goal

abbrev pub invariant-loop-n : goal.invariant-loop-n
invariant-loop-n l = (names : List (List ℕ)) × (drop l.n l.labels ≡ map Offer names) × ArePlacesFrom l.n names l.places.entries
