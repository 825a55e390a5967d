use Rattle.std.proofs.Common.{◌≡◌, drop}
use Rattle.fst_fits.specs.Tests.{types_at}
use Rattle.fst_fits.proofs.TestLaws.{found_before}
use Rattle.fst_fits.proofs.fitting.types_at.Given as goal

abbrev pub invariant-loop-k : goal.invariant-loop-k
invariant-loop-k l = found_before l.found.items (types_at l.types (drop l.k-index l.places)) ≡ types_at l.types l.places
