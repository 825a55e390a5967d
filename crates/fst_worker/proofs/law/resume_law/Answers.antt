use Rattle.fst_worker.proofs.Resuming.{resumes}
use Rattle.fst_worker.proofs.law.resume_law.Goals as goal

pub returns : goal.returns
returns c = resumes
