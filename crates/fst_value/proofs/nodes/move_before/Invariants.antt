use Rattle.std.proofs.Common.{◌≡◌, ◌+◌, ◌++◌, length}
use Rattle.std.specs.VecDeque.{deque_len, deque_capacity}
use Rattle.fst_value.proofs.nodes.move_before.Given as goal

abbrev pub invariant-loop-node : goal.invariant-loop-node
invariant-loop-node l = record {
  nodes : l.from.items ++ l.to.items ≡ l.fn.from.items ++ l.fn.to.items;
  len : deque_len l.to + length l.from.items ≡ deque_len l.fn.to + length l.fn.from.items;
  capacity : deque_capacity l.to ≡ deque_capacity l.fn.to;
}

abbrev pub decreases-loop-node : goal.decreases-loop-node
decreases-loop-node l = length l.from.items
