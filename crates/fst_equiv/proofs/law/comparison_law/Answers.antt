use Rattle.fst_equiv.proofs.EqualTypes.{comparison_equal, no_difference}
use Rattle.fst_equiv.proofs.law.comparison_law.Goals as goal

pub returns : goal.returns
returns c = record { equal = comparison_equal; differ = no_difference }
