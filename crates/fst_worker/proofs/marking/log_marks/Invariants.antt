use Rattle.std.proofs.Common.{◌≡◌, ◌<◌, ◌++◌}
use Rattle.std.specs.Vec.Iter.{into_iter_items}
use Rattle.fst_process.specs.Marks.{forks_behind, marks_from}
use Rattle.fst_worker.proofs.marking.log_marks.Given as goal

abbrev pub invariant-loop-kept : goal.invariant-loop-kept
invariant-loop-kept l = record {
  few : forks_behind l.forked (into_iter_items l.kept-iterator) < 4294967295;
  listed : l.marks.items ++ marks_from l.fn.path l.forked
      (into_iter_items l.kept-iterator) ≡ marks_from l.fn.path 0 l.fn.log.items;
}
