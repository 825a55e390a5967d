use Rattle.std.proofs.Common.{◌≡◌, ◌++◌}
use Rattle.std.specs.Vec.Iter.{into_iter_items}
use Rattle.fst_worker.specs.declared.ending.Bare.{Bare}
use Rattle.fst_worker.specs.Ending.{AreBare, ends_of}
use Rattle.std.specs.Prelude.{List}
use Rattle.fst_worker.proofs.ending.strip_all.Given as goal

abbrev pub invariant-loop-task : goal.invariant-loop-task
invariant-loop-task l = record {
  bare : (bs : List Bare) → AreBare (into_iter_items l.task-iterator) bs → AreBare l.fn.tasks.items (l.bare.items ++ bs);
  ends : l.ends.items ++ ends_of (into_iter_items l.task-iterator) ≡ l.fn.ends.items ++ ends_of l.fn.tasks.items;
}
