use Rattle.fst_kinds.proofs.InstanceLaws.{instantiated_well_formed}
use Rattle.fst_kinds.proofs.law.instances_keep_kinds.Goals as goal

pub returns : goal.returns
returns c = instantiated_well_formed
