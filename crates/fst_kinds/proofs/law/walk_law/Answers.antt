use Rattle.fst_kinds.proofs.WalkLaws.{walk_kinds}
use Rattle.fst_kinds.proofs.FaultLaws.{walk_faults}
use Rattle.fst_kinds.proofs.law.walk_law.Goals as goal

pub returns : goal.returns
returns c = record { kinds = walk_kinds; faults = walk_faults }
