-- Tasks that are dealt out.
use Rattle.std.specs.Prelude.{◌≡◌, List, [], All, IsPermutation}
use Rattle.fst_safety.specs.declared.tasks.TypedTask.{TypedTask}
use Rattle.fst_worker.specs.declared.shares.Share.{Share}
use Rattle.fst_worker.specs.Shares.{all_tasks}

-- the share has no task
abbrev pub IsEmpty : Share → Type 0
IsEmpty s = (s.tasks.items ≡ []) × (s.forked.items ≡ []) × (s.ended.items ≡ [])

-- nothing was forked and nothing has ended in the share yet
pub record IsFresh (s : Share) : Type 0 where
  pub forked : s.forked.items ≡ []
  pub ended : s.ended.items ≡ []

-- these tasks are those of the shares, in which nothing was forked and nothing has ended yet
pub record IsDealt (ts : List TypedTask) (ss : List Share) : Type 0 where
  pub tasks : IsPermutation ts (all_tasks ss)
  pub fresh : All IsFresh ss
