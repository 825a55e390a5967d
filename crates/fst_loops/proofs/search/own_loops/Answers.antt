use Rattle.std.proofs.Common.{◌≡◌, Bool, true, List, subst, sym, ◌∙◌, arith}
use Rattle.std.specs.Prelude.{map, ◌↔◌, Contains}
use Rattle.fst_loops.specs.Graphs.{items_of, edges, is_looped}
use Rattle.fst_loops.proofs.Parts.{own_more, row_is}
use Rattle.fst_loops.proofs.search.own_loops.Goals as goal

pub loop-x-preserved : goal.loop-x-preserved
loop-x-preserved c = record {
  told = omega (arith, c.in_ok-push.ensures.len, c.push.new.self.ok.0, c.loop-x.looped.ok.0);
  own = λ k lt.
      let row = row_is c.args.graph.now c.loop-x.x c.index-graph-x.result (omega arith) c.index-graph-x.is
      ∙ sym c.deref.ensures.value in
      subst (λ (l : List Bool). (is_looped l k ≡ true) ↔ Contains (edges (map items_of c.args.graph.now) k) k)
      (sym c.in_ok-push.ensures.items) (
      own_more (map items_of c.args.graph.now) c.loop-x.looped.items c.loop-x.x c.contains.result c.deref.result.now
      c.loop-x.invariant.told row c.contains.ensures.cases c.loop-x.invariant.own k lt);
}
