use Rattle.fst_safety.proofs.Modules.{modules_safe}
use Rattle.fst_safety.proofs.law.safety_law.Goals as goal

pub returns : goal.returns
returns c = modules_safe
