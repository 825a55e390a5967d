use Rattle.fst_kinds.proofs.UnfoldLaws.{unfolding_of_well_formed}
use Rattle.fst_kinds.proofs.law.unfolding_keeps_kinds.Goals as goal

pub returns : goal.returns
returns c = unfolding_of_well_formed
