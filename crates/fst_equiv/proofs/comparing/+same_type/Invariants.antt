use Rattle.std.proofs.Common.{◌+◌, ◌*◌, max}
use Rattle.fst_types.specs.Height.{height}
use Rattle.fst_equiv.proofs.comparing.+same_type.Given as goal

abbrev pub decreases-same_type : goal.decreases-same_type
decreases-same_type l = 2 * height l.t.now

abbrev pub decreases-same_parts : goal.decreases-same_parts
decreases-same_parts l = 2 * max (height l.left_first.now) (height l.left_second.now) + 1
