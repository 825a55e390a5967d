use Rattle.std.proofs.Common.{◌+◌, ◌*◌}
use Rattle.fst_types.specs.Size.{nodes, nodes_all}
use Rattle.fst_types.specs.ModelView.{branches_of}
use Rattle.fst_parts.proofs.numbers.+number.Given as goal

abbrev pub decreases-number_of : goal.decreases-number_of
decreases-number_of l = 3 * nodes l.t.now

abbrev pub decreases-number_rec : goal.decreases-number_rec
decreases-number_rec l = 3 * nodes l.body.now + 1

abbrev pub decreases-number_both : goal.decreases-number_both
decreases-number_both l = 3 * (nodes l.first.now + nodes l.second.now) + 1

abbrev pub decreases-number_choice : goal.decreases-number_choice
decreases-number_choice l = 3 * nodes_all (branches_of l.branches.now) + 2

abbrev pub decreases-number_branches : goal.decreases-number_branches
decreases-number_branches l = 3 * nodes_all (branches_of l.branches.now) + 1
