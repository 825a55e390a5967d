use Rattle.fst_worker.proofs.Ordering.{in_order}
use Rattle.fst_worker.proofs.law.order_law.Goals as goal

pub returns : goal.returns
returns c = in_order
