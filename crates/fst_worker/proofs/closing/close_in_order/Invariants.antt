use Rattle.std.specs.Vec.Iter.{into_iter_items, into_iter_len}
use Rattle.fst_worker.proofs.InOrder.{AreClosedSoFar}
use Rattle.fst_worker.proofs.closing.close_in_order.Given as goal

abbrev pub invariant-loop-first : goal.invariant-loop-first
invariant-loop-first l = AreClosedSoFar l.fn.ends.items l.closed.items (into_iter_items l.left)

abbrev pub decreases-loop-first : goal.decreases-loop-first
decreases-loop-first l = into_iter_len l.left
