use Rattle.fst_safety.proofs.Orders.{one_end}
use Rattle.fst_safety.proofs.law.one_end_law.Goals as goal

pub returns : goal.returns
returns c = one_end
