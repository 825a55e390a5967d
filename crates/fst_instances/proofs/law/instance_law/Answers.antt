use Rattle.std.proofs.Common.{[]}
use Rattle.fst_instances.proofs.InstanceLaws.{instance_law}
use Rattle.fst_instances.proofs.law.instance_law.Goals as goal

pub returns : goal.returns
returns c = record { closing = instance_law []; outer = instance_law }
