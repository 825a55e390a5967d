use Rattle.std.proofs.Common.{arith}
use Rattle.std.specs.Prelude.{map}
use Rattle.fst_loops.specs.Graphs.{items_of}
use Rattle.fst_loops.proofs.Steps.{empty_path}
use Rattle.fst_loops.proofs.search.Search.run.Goals as goal

pub open-requires-clause-led : goal.open-requires-clause-led
open-requires-clause-led c p l =
    let s = c.args.self.now in
    let empty = empty_path (map items_of c.args.graph.now) s.marks.items s.path.items s.parts.items s.pending.items s.order.items
    s.looped.items c.requires.search c.requires.closed in
    absurd (omega (arith, empty, l))

pub loop-part-init : goal.loop-part-init
loop-part-init c = record {
  search = c.in_ok-open.ensures.step.search;
  met = c.in_ok-open.ensures.step.met;
  begun =
      c.in_ok-open.ensures.begun;
}

pub loop-part-preserved : goal.loop-part-preserved
loop-part-preserved c = record {
  search = c.in_ok-step.ensures.search;
  met = λ x e. c.loop-part.invariant.met x (c.in_ok-step.ensures.met x e);
  begun = λ e. c.loop-part.invariant.begun (c.in_ok-step.ensures.met c.args.start e);
}

pub loop-part-smaller : goal.loop-part-smaller
loop-part-smaller c = c.in_ok-step.ensures.less
