use Rattle.std.proofs.Common.{◌≡◌, ◌≤◌, length, take}
use Rattle.std.specs.List.{flat_map}
use Rattle.fst_value.specs.Nodes.{nodes_of, values_in}
use Rattle.fst_value.proofs.nodes.up_to_largest.Given as goal

abbrev pub invariant-loop-i : goal.invariant-loop-i
invariant-loop-i l = record {
  place : l.at ≡ length (flat_map nodes_of (take l.i (values_in l.nodes.items)));
  values : l.up_to.0 ≤ l.i;
  nodes : l.up_to.1 ≡ length (flat_map nodes_of (take l.up_to.0 (values_in l.nodes.items)));
}
