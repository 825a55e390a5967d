use Rattle.std.proofs.Common.{◌≡◌, map, take}
use Rattle.fst_loops.specs.Graphs.{items_of}
use Rattle.fst_scopes.specs.Graph.{entry_edges}
use Rattle.fst_scopes.proofs.aliases.graph_of.Given as goal

abbrev pub invariant-loop-entry : goal.invariant-loop-entry
invariant-loop-entry l = map items_of l.rows.items ≡ map (entry_edges l.types.names) (take l.entry-index l.types.entries.items)
