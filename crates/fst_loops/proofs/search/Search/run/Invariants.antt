use Rattle.std.proofs.Common.{◌≡◌}
use Rattle.std.specs.Prelude.{map}
use Rattle.fst_loops.specs.Graphs.{items_of}
use Rattle.fst_loops.specs.Searches.{mark_at, IsSearch, KeepsMet, work}
use Rattle.fst_loops.specs.declared.search.Mark.TheVariants.{Unseen}
use Rattle.fst_loops.proofs.search.Search.run.Given as goal

abbrev pub invariant-loop-part : goal.invariant-loop-part
invariant-loop-part l = record {
  search : IsSearch (map items_of l.graph) l.self;
  met : KeepsMet l.fn.self.marks.items l.self.marks.items;
  begun : mark_at l.self.marks.items l.start ≡ Unseen → ⊥;
}

abbrev pub decreases-loop-part : goal.decreases-loop-part
decreases-loop-part l = work (map items_of l.graph) l.self
