use Rattle.fst_worker.proofs.Partners.{paired}
use Rattle.fst_worker.proofs.law.pair_law.Goals as goal

pub returns : goal.returns
returns c = paired
