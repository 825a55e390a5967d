-- Shares of the tasks, and what a round makes of them.
use Rattle.std.specs.Prelude.{◌≡◌, ◌⊎◌, ℕ, ◌+◌, ◌<◌, ◌≤◌, Bool, true, false, Some, Result, Ok, Err, List, [], ◌∷◌, ◌++◌, length, slice_index_or, sum_by, All, ⊤}
use Rattle.std.specs.List.{list_any}
use Rattle.std.specs.declared.alloc.AllocError.{AllocError}
use Rattle.fst_types.specs.Tree.{Tree}
use Rattle.fst_types.specs.declared.ends.EndName.{EndName}
use Rattle.fst_machine.specs.declared.code.Code.{Code}
use Rattle.fst_machine.specs.declared.request.Request.{Request}
use Rattle.fst_machine.specs.declared.request.Request.TheVariants.{Ended}
use Rattle.fst_machine.specs.declared.request.Answer.{Answer}
use Rattle.fst_machine.specs.declared.request.Answer.TheVariants.{Go, Made, Forked, Sent, Got}
use Rattle.fst_machine.specs.Machine.{request}
use Rattle.fst_runs.specs.Configs.{Path}
use Rattle.fst_runs.specs.Wrong.{end_of}
use Rattle.fst_runs.specs.declared.log.LogEntry.{LogEntry}
use Rattle.fst_safety.specs.declared.tasks.TypedTask.{TypedTask}
use Rattle.fst_safety.specs.Tasks.{Grows, Keeps, IsTypedCode, module_of, offers, tries_at, work}
use Rattle.fst_safety.specs.Threads.{Thread, FitsIn}
use Rattle.fst_safety.specs.Turns.{of_ends}
use Rattle.fst_worker.specs.declared.shares.Share.{Share}
use Rattle.fst_worker.specs.Works.{Went}

-- ---- tasks and their threads

-- the tasks are these threads, one each, in order
abbrev pub AreKept : Code → List TypedTask → List Thread → Type 0
AreKept k [] [] = ⊤
AreKept k [] (x ∷ xs) = ⊥
AreKept k (t ∷ ts) [] = ⊥
AreKept k (t ∷ ts) (x ∷ xs) = Keeps k t x × AreKept k ts xs

-- all tasks of a share
abbrev pub all_of : Share → List TypedTask
all_of s = s.tasks.items ++ (s.forked.items ++ s.ended.items)

-- all tasks of shares
abbrev pub all_tasks : List Share → List TypedTask
all_tasks [] = []
all_tasks (s ∷ ss) = all_of s ++ all_tasks ss

-- the threads of a share's tasks
pub record Crew : Type 0 where
  pub tasks : List Thread
  pub forked : List Thread
  pub ended : List Thread

-- all threads of a crew
abbrev pub threads_of : Crew → List Thread
threads_of c = c.tasks ++ (c.forked ++ c.ended)

-- all threads of crews
abbrev pub all_threads : List Crew → List Thread
all_threads [] = []
all_threads (c ∷ cs) = threads_of c ++ all_threads cs

-- the share's tasks are the threads of the crew
pub record IsCrew (k : Code) (s : Share) (c : Crew) : Type 0 where
  pub tasks : AreKept k s.tasks.items c.tasks
  pub forked : AreKept k s.forked.items c.forked
  pub ended : AreKept k s.ended.items c.ended

-- the crews are those of the shares, one each, in order
abbrev pub AreCrews : Code → List Share → List Crew → Type 0
AreCrews k [] [] = ⊤
AreCrews k [] (c ∷ cs) = ⊥
AreCrews k (s ∷ ss) [] = ⊥
AreCrews k (s ∷ ss) (c ∷ cs) = IsCrew k s c × AreCrews k ss cs

-- the tasks of the shares fit their code
pub record CanMove (k : Code) (ss : List Share) : Type 0 where
  pub type : Tree
  pub code : IsTypedCode k type
  pub threads : List Thread
  pub kept : AreKept k (all_tasks ss) threads
  pub fit : All (FitsIn (module_of k) type) threads

-- ---- what a round makes of a share

-- the thread has come to its end
abbrev pub IsOver : Code → Thread → Type 0
IsOver k x = request (module_of k).families x.now.state ≡ Some Ended

-- nothing is in its log
abbrev pub IsIdle : Thread → Type 0
IsIdle x = x.log ≡ []

-- 1 for an event that is counted with this task; what was received is counted with the one that received it
abbrev pub counts_one : Answer → ℕ
counts_one Go = 1
counts_one (Made h) = 1
counts_one Forked = 1
counts_one Sent = 0
counts_one (Got ev) = 1

-- how many events of a log are counted
abbrev pub counts : List LogEntry → ℕ
counts es = sum_by (λ (e : LogEntry). counts_one e.answer) es

-- how often the ends of this name among those of the threads have tried
abbrev pub tries_of : EndName → List Thread → ℕ
tries_of z xs = sum_by (of_ends (tries_at z)) xs

-- the paths of all threads but those that were forked, however they are weighed
abbrev pub own_paths : (Path → ℕ) → Crew → ℕ
own_paths w c = sum_by (λ (x : Thread). w x.path) c.tasks + sum_by
    (λ (x : Thread). w x.path) c.ended

-- how much the threads have done
abbrev pub work_of : List Thread → ℕ
work_of xs = sum_by work xs

-- the thread asks to send or to receive at an end that was tried since the threads were those before
pub record HasAsked (k : Code) (before after : List Thread) (x : Thread) : Type 0 where
  pub asked : Request
  pub asks : request (module_of k).families x.now.state ≡ Some asked
  pub end : EndName
  pub at : end_of asked ≡ Some end
  pub tried : tries_of end before < tries_of end after

-- what was made of the share s, whose threads were b, in u, whose threads are c
pub record HasRun (k : Code) (steps : ℕ) (s u : Share) (b c : Crew) : Type 0 where
  -- what was forked stands apart and hasn't moved, and what has ended asks for no more
  pub own : (w : Path → ℕ) → own_paths w c ≡ own_paths w b
  pub idle : All IsIdle b.forked → All IsIdle c.forked
  pub over : All (IsOver k) b.ended → All (IsOver k) c.ended
  -- the events are counted
  pub counted : u.events + sum_by (λ (x : Thread). counts x.log) (threads_of b) ≡ s.events + sum_by
      (λ (x : Thread). counts x.log) (threads_of c)
  -- more was done where the share has moved, and else as much
  pub done : Grows u.moved (work_of (threads_of b)) (work_of (threads_of c))
  -- where nothing moved, no log has changed
  pub still : u.moved ≡ false → (w : Path → List LogEntry → ℕ) →
      sum_by (λ (x : Thread). w x.path x.log) (threads_of c) ≡ sum_by
      (λ (x : Thread). w x.path x.log) (threads_of b)
  -- unless memory was wanting, or the events or the clock of a task exceed the steps, each task that is left asks at an end that was tried
  pub tried : u.refused ≡ false → u.events ≤ steps → All
      (λ (t : TypedTask). t.clock ≤ steps) u.tasks.items →
      All (HasAsked k (threads_of b) (threads_of c)) c.tasks

-- ---- whatever threads the tasks were

-- P holds of whatever threads tasks were, as Is tells them from the tasks, where they fit the code, whose main has the type that P is told
abbrev pub Whatever : {V : Type 0} → Code → (V → Type 0) → (V → List Thread) →
    (Tree → V → Type 0) → Type 0
Whatever {V} k Is threads P = (a : Tree) (v : V) → IsTypedCode k a → Is v →
    All (FitsIn (module_of k) a) (threads v) → P a v

-- the same of the crew of one share
abbrev pub WhateverCrew : Code → Share → (Tree → Crew → Type 0) → Type 0
WhateverCrew k s P = Whatever k (IsCrew k s) threads_of P

-- ---- what a round makes of all shares

-- whatever threads the tasks were, they have gone on by turns alone
abbrev pub GoOn : Code → List Share → List Share → Type 0
GoOn k ss us = Whatever k (AreKept k (all_tasks ss)) (λ xs. xs)
    (λ a xs. (ys : List Thread) × AreKept k (all_tasks us) ys × Went (module_of k) a xs ys)

-- the shares ss, whose tasks were the threads of these crews, are us now
pub record HaveRun (k : Code) (a : Tree) (steps : ℕ) (ss us : List Share)
    (bs : List Crew) : Type 0 where
  pub after : List Crew
  pub are : AreCrews k us after
  pub went : Went (module_of k) a (all_threads bs) (all_threads after)
  pub each : (i : ℕ) (d : Share) (e : Crew) → i < length ss →
      HasRun k steps (slice_index_or ss i d) (slice_index_or us i d) (slice_index_or bs i e)
      (slice_index_or after i e)

-- so it is whatever crews they had
abbrev pub RunsAll : Code → ℕ → List Share → List Share → Type 0
RunsAll k steps ss us = Whatever k (AreCrews k ss) all_threads (λ a bs. HaveRun k a steps ss us bs)

-- the paths of a share's tasks but for those that were forked, however they are weighed
abbrev pub paths_in : (Path → ℕ) → Share → ℕ
paths_in w s = sum_by (λ (t : TypedTask). w t.task.path) s.tasks.items + sum_by
    (λ (t : TypedTask). w t.task.path) s.ended.items

-- there are as many shares, each with the tasks that it had, and no task that was forked has moved
pub record AreLent (ss us : List Share) : Type 0 where
  pub length_is : length us ≡ length ss
  pub own : (i : ℕ) (d : Share) → i < length ss →
      (w : Path → ℕ) → paths_in w (slice_index_or us i d) ≡ paths_in w (slice_index_or ss i d)
  pub idle : All (λ (s : Share). All (λ (t : TypedTask). t.log.items ≡ []) s.forked.items) us

-- in each share the events have grown by those that its logs have gained
abbrev pub AreCounted : List Share → List Share → Type 0
AreCounted ss us = (i : ℕ) (d : Share) → i < length ss →
    let s = slice_index_or ss i d in
    let u = slice_index_or us i d in
    u.events + sum_by (λ (t : TypedTask). counts t.log.items) (all_of s) ≡ s.events + sum_by
    (λ (t : TypedTask). counts t.log.items) (all_of u)

-- how many entries the logs of a share have
abbrev pub entries_in : Share → ℕ
entries_in s = sum_by (λ (t : TypedTask). length t.log.items) (all_of s)

-- how many offers of its tasks stand, for all that these know
abbrev pub offers_in : Share → ℕ
offers_in s = sum_by (λ (t : TypedTask). sum_by offers t.bag.items + sum_by offers t.retired.items)
    (all_of s)

-- what `moved` tells of the share s, which is u now
pub record IsTold (s u : Share) : Type 0 where
  -- where it has moved its logs have more entries, or more of its offers stand
  pub moved : u.moved ≡ true → (entries_in s < entries_in u) ⊎ (offers_in s < offers_in u)
  -- where it hasn't, the logs of its tasks are as before, and as many offers stand
  pub still : u.moved ≡ false → (w : Path → List LogEntry → ℕ) →
      sum_by (λ (t : TypedTask). w t.task.path t.log.items) (all_of u) ≡ sum_by
      (λ (t : TypedTask). w t.task.path t.log.items) (all_of s)
  pub idle : u.moved ≡ false → offers_in u ≡ offers_in s

-- so it is of each share
abbrev pub AreTold : List Share → List Share → Type 0
AreTold ss us = (i : ℕ) (d : Share) → i < length ss →
    IsTold (slice_index_or ss i d) (slice_index_or us i d)

-- whether a share has moved
abbrev pub some_moved : List Share → Bool
some_moved ss = list_any (λ (s : Share). s.moved) ss

-- whether a share has given up for want of memory
abbrev pub some_refused : List Share → Bool
some_refused ss = list_any (λ (s : Share). s.refused) ss

-- the answer tells whether a share has moved, and memory was wanting only where a share has given up
abbrev pub IsAnswer : Result Bool AllocError → List Share → Type 0
IsAnswer (Ok b) us = (b ≡ some_moved us) × (some_refused us ≡ false)
IsAnswer (Err e) us = some_refused us ≡ true
