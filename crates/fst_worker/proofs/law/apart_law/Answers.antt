use Rattle.fst_worker.proofs.Apart.{apart}
use Rattle.fst_worker.proofs.law.apart_law.Goals as goal

pub returns : goal.returns
returns c = apart
