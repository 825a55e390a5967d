use Rattle.std.proofs.Common.{◌≡◌, None, length, replicate, take}
use Rattle.fst_scopes.specs.Graph.{trees_after}
use Rattle.fst_names.proofs.trees.trees_of.Given as goal

abbrev pub invariant-loop-k : goal.invariant-loop-k
invariant-loop-k l =
    l.trees.items ≡ trees_after l.declarations.types l.declarations.aliases.looped.items
    (replicate (length l.declarations.types.names) None) (take l.k-index l.declarations.aliases.order.items)
