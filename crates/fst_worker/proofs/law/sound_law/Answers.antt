use Rattle.fst_worker.proofs.Telling.{joins}
use Rattle.fst_worker.proofs.law.sound_law.Goals as goal

pub returns : goal.returns
returns c = joins
