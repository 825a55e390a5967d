use Rattle.fst_safety.proofs.SlotEnds.{slots_ends}
use Rattle.fst_safety.proofs.law.ends_law.Goals as goal

pub returns : goal.returns
returns c = slots_ends
