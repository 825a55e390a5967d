use Rattle.std.proofs.Common.{◌≡◌, ◌≤◌, ◌-◌, None, length, replicate}
use Rattle.fst_names.proofs.trees.no_trees.Given as goal

abbrev pub invariant-loop-trees : goal.invariant-loop-trees
invariant-loop-trees l = record { few : length l.trees.items ≤ l.n; none : l.trees.items ≡ replicate (length l.trees.items) None }

abbrev pub decreases-loop-trees : goal.decreases-loop-trees
decreases-loop-trees l = l.n - length l.trees.items
