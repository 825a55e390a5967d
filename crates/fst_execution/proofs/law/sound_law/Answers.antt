use Rattle.fst_execution.proofs.ExecutionLaws.{answers_sound}
use Rattle.fst_execution.proofs.law.sound_law.Goals as goal

pub returns : goal.returns
returns c = answers_sound
