use Rattle.std.proofs.Common.{◌+◌, ◌*◌}
use Rattle.fst_terms.specs.Count.{type_count, branches_count}
use Rattle.fst_types.specs.ModelWrittenView.{written_branches}
use Rattle.fst_scopes.proofs.naming.+named.Given as goal

abbrev pub decreases-named : goal.decreases-named
decreases-named l = 2 * type_count l.w.now

abbrev pub decreases-named_branches : goal.decreases-named_branches
decreases-named_branches l = 2 * branches_count (written_branches l.branches.now) + 1
