use Rattle.std.proofs.Common.{◌≡◌, ◌+◌, ◌*◌, min, drop}
use Rattle.fst_base.specs.Limits.{most_nodes}
use Rattle.fst_types.specs.Height.{height, height_all}
use Rattle.fst_types.specs.ModelView.{branches_of}
use Rattle.fst_types.specs.Size.{nodes_all}
use Rattle.fst_types.specs.Substitution.{substitute_all}
use Rattle.fst_types.specs.ModelScopes.{env_of}
use Rattle.fst_types.proofs.ScopeLaws.{weight}
use Rattle.fst_types.proofs.counting.+substituted_size.Given as goal

abbrev pub invariant-branches_size-loop-branch : goal.invariant-branches_size-loop-branch
invariant-branches_size-loop-branch l =
    min (l.counted + nodes_all (substitute_all (env_of l.scope) (branches_of (drop l.branch-index l.branches)))) (most_nodes + 1)
    ≡ min (l.before + nodes_all (substitute_all (env_of l.scope) (branches_of l.branches))) (most_nodes + 1)

abbrev pub decreases-substituted_size : goal.decreases-substituted_size
decreases-substituted_size l = 2 * (height l.t.now + weight l.scope.now)

abbrev pub decreases-branches_size : goal.decreases-branches_size
decreases-branches_size l = 2 * (height_all (branches_of l.branches.now) + weight l.scope.now) + 1

abbrev pub decreases-variable_size : goal.decreases-variable_size
decreases-variable_size l = 2 * weight l.scope.now + 1
