use Rattle.std.proofs.Common.{◌≡◌, ◌+◌, ◌*◌, take, map}
use Rattle.fst_types.specs.Height.{height, height_all}
use Rattle.fst_types.specs.ModelView.{branches_of}
use Rattle.fst_lts.specs.Dual.{dual_branch}
use Rattle.fst_lts.proofs.duality.+dual.Given as goal

abbrev pub invariant-dual_branches-loop-branch : goal.invariant-dual_branches-loop-branch
invariant-dual_branches-loop-branch l = l.duals.items ≡ map dual_branch (take l.branch-index l.branches)

abbrev pub decreases-dual : goal.decreases-dual
decreases-dual l = 2 * height l.t.now

abbrev pub decreases-dual_branches : goal.decreases-dual_branches
decreases-dual_branches l = 2 * height_all (branches_of l.branches.now) + 1

abbrev pub decreases-dual_part : goal.decreases-dual_part
decreases-dual_part l = 2 * height l.part.now + 1
