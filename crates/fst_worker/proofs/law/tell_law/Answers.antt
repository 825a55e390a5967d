use Rattle.fst_worker.proofs.Answering.{tells}
use Rattle.fst_worker.proofs.law.tell_law.Goals as goal

pub returns : goal.returns
returns c = tells
