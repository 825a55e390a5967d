use Rattle.fst_safety.proofs.Modules.{stays_safe}
use Rattle.fst_safety.proofs.law.stays_law.Goals as goal

pub returns : goal.returns
returns c = stays_safe
