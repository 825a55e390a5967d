use Rattle.std.proofs.Common.{map, drop}
use Rattle.fst_arms.proofs.PlaceLaws.{ArePlacesFrom}
use Rattle.fst_arms.proofs.places.maker_places.Given as goal

abbrev pub invariant-loop-n : goal.invariant-loop-n
invariant-loop-n l = ArePlacesFrom l.n (map (λ o. o.name) (drop l.n l.makers)) l.places.entries
