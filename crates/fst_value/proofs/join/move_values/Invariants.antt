use Rattle.std.proofs.Common.{◌≡◌, ◌+◌, ◌≤◌, ◌++◌, length, take, drop}
use Rattle.std.specs.List.{flat_map}
use Rattle.std.specs.Vec.{vec_len, vec_capacity}
use Rattle.std.specs.VecDeque.{deque_len, deque_capacity}
use Rattle.fst_value.specs.Nodes.{nodes_of}
use Rattle.fst_value.proofs.join.move_values.Given as goal

abbrev pub invariant-loop-values : goal.invariant-loop-values
invariant-loop-values l = record {
  nodes : flat_map nodes_of (drop l.at l.values.items) ++ l.nodes.items ≡ flat_map nodes_of (drop l.at l.fn.values.items)
      ++ l.fn.nodes.items;
  values : take l.at l.values.items ≡ take l.at l.fn.values.items;
  from : l.at ≤ vec_len l.values;
  len : deque_len l.nodes + length (flat_map nodes_of (drop l.at l.values.items)) ≡ deque_len l.fn.nodes + length
      (flat_map nodes_of (drop l.at l.fn.values.items));
  room : deque_capacity l.nodes ≡ deque_capacity l.fn.nodes;
  capacity : vec_capacity l.values ≡ vec_capacity l.fn.values;
}

abbrev pub decreases-loop-values : goal.decreases-loop-values
decreases-loop-values l = vec_len l.values
