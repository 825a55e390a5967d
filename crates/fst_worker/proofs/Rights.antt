-- No run from a sound configuration goes wrong.
use Rattle.std.proofs.Common.{[]}
use Rattle.fst_derivations.specs.Modules.{surroundings}
use Rattle.fst_safety.proofs.Laws.{checked, runs_sound, sound_right}
use Rattle.fst_worker.specs.Resumes.{RightLaw}

-- of each module that has derivations
pub goes_right : RightLaw
goes_right n ds h a c s =
    let m = surroundings n [] in
    let w = checked n ds h in
    record { right = λ es d r. sound_right m w a d (runs_sound m w a es c d s r); makers = s.makers; parents = s.parents }
