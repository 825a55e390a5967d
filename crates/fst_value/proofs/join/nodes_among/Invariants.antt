use Rattle.std.proofs.Common.{◌≡◌, length, take}
use Rattle.std.specs.List.{flat_map}
use Rattle.fst_value.specs.Nodes.{nodes_of}
use Rattle.fst_value.proofs.join.nodes_among.Given as goal

abbrev pub invariant-loop-value : goal.invariant-loop-value
invariant-loop-value l = l.sum ≡ length (flat_map nodes_of (take l.value-index l.values))
