use Rattle.fst_lts.proofs.EventLaws.{one_direction}
use Rattle.fst_lts.proofs.law.direction_law.Goals as goal

pub returns : goal.returns
returns c = one_direction
