use Rattle.std.proofs.Common.{◌≡◌, ◌+◌, ◌*◌, ◌++◌, drop}
use Rattle.fst_types.specs.ModelWrittenHeight.{height, height_all}
use Rattle.fst_types.specs.ModelWrittenView.{written_branches}
use Rattle.fst_scopes.specs.Aliases.{names_in_all}
use Rattle.fst_scopes.specs.Graph.{places_in}
use Rattle.fst_scopes.specs.Scopes.{recs_of, types_of}
use Rattle.fst_scopes.proofs.aliases.+places.Given as goal

abbrev pub decreases-add_places : goal.decreases-add_places
decreases-add_places l = 2 * height l.w.now

abbrev pub decreases-add_all_places : goal.decreases-add_all_places
decreases-add_all_places l = 2 * height_all (written_branches l.branches.now) + 1

abbrev pub invariant-add_all_places-loop-branch : goal.invariant-add_all_places-loop-branch
invariant-add_all_places-loop-branch l =
    l.found.items ++ places_in (types_of l.names).names
    (names_in_all (recs_of l.names) (written_branches (drop l.branch-index l.branches)))
    ≡ l.initial.found.items ++ places_in (types_of l.names).names (names_in_all (recs_of l.names) (written_branches l.branches))
