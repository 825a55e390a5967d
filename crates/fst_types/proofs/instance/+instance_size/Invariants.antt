use Rattle.std.proofs.Common.{◌≡◌, ◌-◌, ◌^◌, ◌<◌, min, ◌+◌, ◌*◌, drop}
use Rattle.fst_types.specs.Height.{height, height_all}
use Rattle.fst_types.specs.ModelView.{branches_of}
use Rattle.fst_types.specs.Size.{nodes_all}
use Rattle.fst_types.specs.Instance.{instantiated_all}
use Rattle.fst_types.proofs.instance.+instance_size.Given as goal

abbrev pub invariant-instance_branches_size-loop-branch : goal.invariant-instance_branches_size-loop-branch
invariant-instance_branches_size-loop-branch l = record {
  fits : l.total < 2 ^ 64;
  sum : min (l.total + nodes_all (instantiated_all l.args (branches_of (drop l.branch-index l.branches)))) (2 ^ 64 - 1) ≡ min
      (nodes_all (instantiated_all l.args (branches_of l.branches))) (2 ^ 64 - 1);
}

abbrev pub decreases-instance_size : goal.decreases-instance_size
decreases-instance_size l = 2 * height l.t.now

abbrev pub decreases-instance_branches_size : goal.decreases-instance_branches_size
decreases-instance_branches_size l = 2 * height_all (branches_of l.branches.now) + 1
