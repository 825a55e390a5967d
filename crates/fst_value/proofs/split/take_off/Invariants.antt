use Rattle.std.proofs.Common.{◌≡◌, ◌+◌, ◌++◌, take, drop}
use Rattle.std.specs.List.{flat_map}
use Rattle.std.specs.Vec.{vec_len, vec_capacity}
use Rattle.std.specs.VecDeque.{deque_capacity}
use Rattle.fst_value.specs.Nodes.{nodes_of, values_in}
use Rattle.fst_value.proofs.split.take_off.Given as goal

abbrev pub invariant-loop : goal.invariant-loop
invariant-loop l = record {
  values : l.values.items ≡ l.fn.values.items ++ take l.counter (values_in l.fn.nodes.items);
  nodes : l.nodes.items ≡ flat_map nodes_of (drop l.counter (values_in l.fn.nodes.items));
  more : vec_len l.values ≡ vec_len l.fn.values + l.counter;
  capacity : vec_capacity l.values ≡ vec_capacity l.fn.values;
  room : deque_capacity l.nodes ≡ deque_capacity l.fn.nodes;
}
