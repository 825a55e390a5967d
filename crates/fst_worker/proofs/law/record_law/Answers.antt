use Rattle.fst_worker.proofs.Catching.{records}
use Rattle.fst_worker.proofs.law.record_law.Goals as goal

pub returns : goal.returns
returns c = records
