use Rattle.std.proofs.Common.{◌∙◌, arith}
use Rattle.fst_scopes.specs.Scopes.{recs_of, types_of}
use Rattle.fst_scopes.proofs.GraphLaws.{branch_places}
use Rattle.fst_scopes.proofs.aliases.+places.Goals as goal

pub add_all_places-loop-branch-preserved : goal.add_all_places-loop-branch-preserved
add_all_places-loop-branch-preserved t c =
    branch_places (types_of c.args.names.now).names
    (recs_of c.args.names.now) c.args.branches.now c.loop-branch.branch-index c.branch-item.result c.loop-branch.found.items
    c.add_places.new.found.items
    (omega arith) c.branch-item.is c.in_ok-add_places.ensures ∙ c.loop-branch.invariant
