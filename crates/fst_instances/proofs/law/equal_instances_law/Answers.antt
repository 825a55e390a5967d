use Rattle.fst_instances.proofs.EqualLaws.{instances_equal}
use Rattle.fst_instances.proofs.law.equal_instances_law.Goals as goal

pub returns : goal.returns
returns c = λ outer vars args i s r h. instances_equal outer vars args i h
