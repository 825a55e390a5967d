use Rattle.fst_execution.proofs.WholeLaws.{derived_whole}
use Rattle.fst_execution.proofs.ExecutionLaws.{prepared}
use Rattle.fst_execution.proofs.executing.prepare.Goals as goal

pub generate-requires : goal.generate-requires
generate-requires c = derived_whole c.args.m.now c.requires.derivations c.requires.derived

pub returns : goal.returns
returns c = prepared c.args.m.now c.requires c.generate.result c.generate.ensures.module c.generate.ensures.code
