use Rattle.fst_code.proofs.MakerLaws.{PlacedSoFar}
use Rattle.fst_code.proofs.makers.maker_places.Given as goal

abbrev pub invariant-loop-family : goal.invariant-loop-family
invariant-loop-family l = PlacedSoFar l.families l.family-index l.places.entries
