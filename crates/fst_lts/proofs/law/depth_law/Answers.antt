use Rattle.fst_lts.specs.Step.{step}
use Rattle.fst_base.proofs.TraceLaws.{agree_is_traces}
use Rattle.fst_lts.proofs.law.depth_law.Goals as goal

pub returns : goal.returns
returns c = agree_is_traces step step
