use Rattle.fst_worker.proofs.Leasts.{least_answers}
use Rattle.fst_worker.proofs.law.least_law.Goals as goal

pub returns : goal.returns
returns c = least_answers
