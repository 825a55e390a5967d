use Rattle.std.proofs.Common.{arith}
use Rattle.fst_scopes.proofs.MeasureLaws.{capped_all, counted_last}
use Rattle.fst_scopes.proofs.measure.+measure.Goals as goal

pub measure_all_of-loop-branch-init : goal.measure_all_of-loop-branch-init
measure_all_of-loop-branch-init t c = record { fits = omega arith; sum = capped_all _ _ _ }

pub measure_all_of-returns : goal.measure_all_of-returns
measure_all_of-returns t c = counted_last _ _ c.args.branches.now c.loop-branch.branch-index c.loop-branch.total _
    c.loop-branch-test.false c.loop-branch.invariant.fits c.loop-branch.invariant.sum
