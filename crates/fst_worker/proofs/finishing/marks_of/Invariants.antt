use Rattle.std.proofs.Common.{◌<◌, ◌++◌, List}
use Rattle.std.specs.Prelude.{All}
use Rattle.std.specs.Vec.Iter.{into_iter_items}
use Rattle.fst_process.specs.declared.marks.TaskMarks.{TaskMarks}
use Rattle.fst_process.specs.Marks.{forks_behind}
use Rattle.fst_worker.specs.declared.ending.TaskLog.{TaskLog}
use Rattle.fst_worker.specs.Finishing.{AreMarksOf}
use Rattle.fst_worker.proofs.finishing.marks_of.Given as goal

abbrev pub invariant-loop-log : goal.invariant-loop-log
invariant-loop-log l = record {
  few : All (λ (l : TaskLog). forks_behind 0 l.entries.items < 4294967295) (into_iter_items l.log-iterator);
  marks : (ts : List TaskMarks) → AreMarksOf (into_iter_items l.log-iterator) ts →
      AreMarksOf l.fn.logs.items (l.tasks.items ++ ts);
}
