use Rattle.std.proofs.Common.{◌-◌, arith, refl}
use Rattle.fst_kinds.proofs.LabelLaws.{last_rises}
use Rattle.fst_kinds.proofs.labels.are_rising.Goals as goal

pub returns : goal.returns
returns c = (
  (λ t. c.loop-i.invariant.rest.0 (last_rises c.args.branches.now (c.loop-i.i - 1) (omega arith))),
  (λ h. refl),
)
