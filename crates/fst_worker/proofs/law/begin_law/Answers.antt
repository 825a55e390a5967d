use Rattle.fst_worker.proofs.Starting.{begins_so}
use Rattle.fst_worker.proofs.law.begin_law.Goals as goal

pub returns : goal.returns
returns c = begins_so
