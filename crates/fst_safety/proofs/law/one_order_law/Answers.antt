use Rattle.fst_safety.proofs.Orders.{one_text}
use Rattle.fst_safety.proofs.law.one_order_law.Goals as goal

pub returns : goal.returns
returns c = one_text
