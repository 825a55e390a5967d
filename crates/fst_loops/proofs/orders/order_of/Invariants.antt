use Rattle.std.proofs.Common.{◌≡◌, ℕ, ◌<◌, []}
use Rattle.std.specs.Prelude.{map}
use Rattle.fst_loops.specs.Graphs.{items_of}
use Rattle.fst_loops.specs.Searches.{mark_at, IsSearch}
use Rattle.fst_loops.specs.declared.search.Mark.TheVariants.{Unseen}
use Rattle.fst_loops.proofs.orders.order_of.Given as goal

abbrev pub invariant-loop-start : goal.invariant-loop-start
invariant-loop-start l = record {
  search : IsSearch (map items_of l.graph) l.search;
  closed : l.search.parts.items ≡ [];
  met : (x : ℕ) → x < l.start → mark_at l.search.marks.items x ≡ Unseen → ⊥;
}
