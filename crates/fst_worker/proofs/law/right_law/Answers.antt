use Rattle.fst_worker.proofs.Rights.{goes_right}
use Rattle.fst_worker.proofs.law.right_law.Goals as goal

pub returns : goal.returns
returns c = goes_right
