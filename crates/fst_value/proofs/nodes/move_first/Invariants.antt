use Rattle.std.proofs.Common.{◌≡◌, ◌+◌, ◌++◌, take, drop}
use Rattle.std.specs.VecDeque.{deque_len, deque_capacity}
use Rattle.fst_value.proofs.nodes.move_first.Given as goal

abbrev pub invariant-loop : goal.invariant-loop
invariant-loop l = record {
  to : l.to.items ≡ l.fn.to.items ++ take l.counter l.fn.from.items;
  from : l.from.items ≡ drop l.counter l.fn.from.items;
  more : deque_len l.to ≡ deque_len l.fn.to + l.counter;
  room : deque_capacity l.to ≡ deque_capacity l.fn.to;
  capacity : deque_capacity l.from ≡ deque_capacity l.fn.from;
}
