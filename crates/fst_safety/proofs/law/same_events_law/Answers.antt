use Rattle.fst_safety.proofs.Orders.{all_same}
use Rattle.fst_safety.proofs.law.same_events_law.Goals as goal

pub returns : goal.returns
returns c = all_same
