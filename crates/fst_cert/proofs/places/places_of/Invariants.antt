use Rattle.std.proofs.Common.{◌≡◌, take}
use Rattle.fst_cert.proofs.places.places_of.Given as goal

abbrev pub invariant-loop-pair : goal.invariant-loop-pair
invariant-loop-pair l = l.places ≡ take l.pair-index l.basis
