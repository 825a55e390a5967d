use Rattle.fst_safety.proofs.Orders.{events_commute}
use Rattle.fst_safety.proofs.law.diamond_law.Goals as goal

pub returns : goal.returns
returns c = events_commute
