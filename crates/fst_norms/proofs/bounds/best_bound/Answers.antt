use Rattle.fst_norms.proofs.NormLaws.{lesser-none}
use Rattle.fst_norms.proofs.bounds.best_bound.Goals as goal

pub loop-rule-init : goal.loop-rule-init
loop-rule-init c = lesser-none _
