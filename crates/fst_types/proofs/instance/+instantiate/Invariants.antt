use Rattle.std.proofs.Common.{◌≡◌, ◌+◌, ◌*◌, take, map}
use Rattle.fst_types.specs.Height.{height, height_all}
use Rattle.fst_types.specs.ModelView.{branches_of}
use Rattle.fst_types.specs.Instance.{instantiated_branch}
use Rattle.fst_types.proofs.instance.+instantiate.Given as goal

abbrev pub invariant-instantiate_all-loop-branch : goal.invariant-instantiate_all-loop-branch
invariant-instantiate_all-loop-branch l = l.instances.items ≡ map (instantiated_branch l.args) (take l.branch-index l.branches)

abbrev pub decreases-instantiate : goal.decreases-instantiate
decreases-instantiate l = 2 * height l.t.now

abbrev pub decreases-instantiate_all : goal.decreases-instantiate_all
decreases-instantiate_all l = 2 * height_all (branches_of l.branches.now) + 1

abbrev pub decreases-instantiate_part : goal.decreases-instantiate_part
decreases-instantiate_part l = 2 * height l.part.now + 1
