-- What the laws of code say.
use Rattle.fst_machine.specs.Standing.{CodeStands, StepsEnd}
use Rattle.fst_machine.proofs.CodeLaws.{start_stands, inner_lowers}

-- the code of a program stands for it
pub code_stands : CodeStands
code_stands c bodies ic dm g e h = start_stands c bodies ic dm g e h

-- steps of code that goes down lower the measure
pub steps_end : StepsEnd
steps_end c d s t h = inner_lowers c s t d h
