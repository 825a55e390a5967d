use Rattle.std.proofs.Common.{None, take, replicate, length}
use Rattle.fst_scopes.specs.Counted.{AreMeasures}
use Rattle.fst_scopes.specs.Graph.{trees_after}
use Rattle.fst_scopes.proofs.aliases.measures_of.Given as goal

abbrev pub invariant-loop-k : goal.invariant-loop-k
invariant-loop-k l = AreMeasures (trees_after l.types l.looped (replicate (length l.types.names) None) (take l.k-index l.order))
    l.measures.items
