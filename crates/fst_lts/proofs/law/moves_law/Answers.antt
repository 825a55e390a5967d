use Rattle.fst_lts.proofs.MoveLaws.{steps_are_moves, moves_once}
use Rattle.fst_lts.proofs.law.moves_law.Goals as goal

pub returns : goal.returns
returns c = record { steps = steps_are_moves; unique = λ s t u a m n. moves_once m n }
