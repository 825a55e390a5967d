use Rattle.std.proofs.Common.{◌≡◌, ◌+◌, ◌*◌, drop}
use Rattle.fst_types.specs.Height.{height, height_all}
use Rattle.fst_types.specs.ModelView.{branches_of}
use Rattle.fst_fits.specs.Tests.{are_ready}
use Rattle.fst_fits.proofs.ready.+ready.Given as goal

abbrev pub invariant-are_ready-loop-branch : goal.invariant-are_ready-loop-branch
invariant-are_ready-loop-branch l = are_ready l.n (branches_of (drop l.branch-index l.branches)) ≡ are_ready l.n
    (branches_of l.branches)

abbrev pub decreases-is_ready : goal.decreases-is_ready
decreases-is_ready l = 2 * height l.t.now

abbrev pub decreases-are_ready : goal.decreases-are_ready
decreases-are_ready l = 2 * height_all (branches_of l.branches.now) + 1
