use Rattle.fst_worker.proofs.AlongRuns.{record_answers}
use Rattle.fst_worker.proofs.law.answer_law.Goals as goal

pub returns : goal.returns
returns c = record_answers
