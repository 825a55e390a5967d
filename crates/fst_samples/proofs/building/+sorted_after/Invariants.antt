use Rattle.std.proofs.Common.{length}
use Rattle.fst_samples.proofs.building.+sorted_after.Given as goal

abbrev pub decreases-sorted_after : goal.decreases-sorted_after
decreases-sorted_after l = length l.rest.now
