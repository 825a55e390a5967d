use Rattle.std.proofs.Common.{arith}
use Rattle.std.specs.Prelude.{map}
use Rattle.std.proofs.lemmas.List.{length-map}
use Rattle.fst_loops.specs.Graphs.{items_of}
use Rattle.fst_loops.proofs.Steps.{ended}
use Rattle.fst_loops.proofs.orders.order_of.Goals as goal

pub returns : goal.returns
returns c =
    let s = c.loop-start.search in
    ended (map items_of c.args.graph.now) s.marks.items s.path.items s.parts.items s.pending.items s.order.items s.looped.items
    c.loop-start.invariant.search c.loop-start.invariant.closed
    (λ x lt. c.loop-start.invariant.met x (omega (arith, lt, length-map c.args.graph.now items_of)))
