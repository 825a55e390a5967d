use Rattle.std.proofs.Common.{◌≡◌, ℕ, ◌<◌, length, true}
use Rattle.std.specs.Prelude.{map, ◌↔◌, Contains}
use Rattle.fst_loops.specs.Graphs.{items_of, edges, is_looped}
use Rattle.fst_loops.proofs.search.own_loops.Given as goal

abbrev pub invariant-loop-x : goal.invariant-loop-x
invariant-loop-x l = record {
  told : length l.looped.items ≡ l.x;
  own : (k : ℕ) → k < l.x → (is_looped l.looped.items k ≡ true) ↔ Contains (edges (map items_of l.graph) k) k;
}
