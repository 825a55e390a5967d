use Rattle.std.specs.Vec.Iter.{into_iter_items}
use Rattle.fst_worker.specs.Ending.{AreTellable}
use Rattle.fst_worker.proofs.ToldAll.{IsToldAsFar}
use Rattle.fst_worker.proofs.ending.tell_all.Given as goal

abbrev pub invariant-loop-one : goal.invariant-loop-one
invariant-loop-one l = (d : AreTellable l.fn.code l.fn.bare.items l.fn.closed) →
    IsToldAsFar l.fn.code l.fn.bare.items l.fn.closed d (into_iter_items l.one-iterator) l.tasks.items l.logs.items
