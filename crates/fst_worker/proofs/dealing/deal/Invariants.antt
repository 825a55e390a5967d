use Rattle.std.proofs.Common.{◌≡◌, ◌<◌, ◌++◌, length}
use Rattle.std.specs.Prelude.{All, IsPermutation}
use Rattle.std.specs.Vec.Iter.{into_iter_items}
use Rattle.fst_worker.specs.Shares.{all_tasks}
use Rattle.fst_worker.specs.Dealing.{IsFresh}
use Rattle.fst_worker.proofs.dealing.deal.Given as goal

abbrev pub invariant-loop-task : goal.invariant-loop-task
invariant-loop-task l = record {
  at : l.at < l.fn.count;
  len : length l.shares.items ≡ l.fn.count;
  tasks : IsPermutation l.fn.tasks.items (into_iter_items l.task-iterator ++ all_tasks l.shares.items);
  fresh : All IsFresh l.shares.items;
}
