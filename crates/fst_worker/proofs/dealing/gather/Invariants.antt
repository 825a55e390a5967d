use Rattle.std.proofs.Common.{◌++◌}
use Rattle.std.specs.Prelude.{IsPermutation}
use Rattle.std.specs.Vec.Iter.{into_iter_items}
use Rattle.fst_worker.specs.Shares.{all_tasks}
use Rattle.fst_worker.proofs.dealing.gather.Given as goal

abbrev pub invariant-loop-share : goal.invariant-loop-share
invariant-loop-share l = IsPermutation (all_tasks l.fn.shares.items ++ l.fn.ended.items)
    (all_tasks (into_iter_items l.share-iterator) ++ (l.tasks.items ++ l.ended.items))
