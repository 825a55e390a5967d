use Rattle.std.proofs.Common.{List, ℕ}
use Rattle.std.specs.Prelude.{map}
use Rattle.fst_loops.specs.Graphs.{items_of}
use Rattle.fst_loops.proofs.Steps.{can_close}
use Rattle.fst_loops.proofs.search.Search.step.Goals as goal

pub finish-requires : goal.finish-requires
finish-requires c =
    let g : List (List ℕ) = map items_of c.args.graph.now in
    let s = c.args.self.now in
    let can = can_close g s.marks.items s.path.items s.parts.items s.pending.items s.order.items s.looped.items c.requires.search
    c.args.part c.requires.last in
    record { first = can.0; nodes = can.1; told = can.2 }
