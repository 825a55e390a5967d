-- How a share goes on: the turns of one of its tasks, and passes over all of them.
use Rattle.std.specs.Prelude.{◌≡◌, ◌⊎◌, ℕ, zero, suc, ◌+◌, ◌<◌, ◌≤◌, Bool, true, false, Result, Ok, Err, List, [], ◌∷◌, ◌++◌, length, take, slice_index_or, slice_set, swap, sum_by, All, Some, ⊤}
use Rattle.std.specs.declared.alloc.AllocError.{AllocError}
use Rattle.fst_types.specs.Tree.{Tree}
use Rattle.fst_types.specs.declared.ends.EndName.{EndName}
use Rattle.fst_machine.specs.declared.code.Code.{Code}
use Rattle.fst_machine.specs.declared.request.Request.{Request}
use Rattle.fst_machine.specs.Machine.{request}
use Rattle.fst_runs.specs.Configs.{Path}
use Rattle.fst_runs.specs.Wrong.{end_of, once}
use Rattle.fst_runs.specs.declared.log.LogEntry.{LogEntry}
use Rattle.fst_safety.specs.declared.tasks.TypedTask.{TypedTask}
use Rattle.fst_safety.specs.Going.{GoesOnTo}
use Rattle.fst_safety.specs.Tasks.{Grows, HasGained, IsTypedCode, module_of, tries_at, work}
use Rattle.fst_safety.specs.Threads.{Thread, FitsIn}
use Rattle.fst_safety.specs.Turns.{of_ends}
use Rattle.fst_worker.specs.declared.shares.Share.{Share}
use Rattle.fst_worker.specs.declared.shares.Move.{Move}
use Rattle.fst_worker.specs.declared.shares.Move.TheVariants.{Gained, Offered, Left, Over}
use Rattle.fst_worker.specs.declared.shares.Stop.{Stop}
use Rattle.fst_worker.specs.declared.shares.Stop.TheVariants.{Waits, Ends, Halts}
use Rattle.fst_worker.specs.Shares.{Crew, WhateverCrew, HasAsked, HasRun, IsCrew, IsIdle, IsOver, counts, counts_one, own_paths, threads_of, tries_of, work_of}
use Rattle.fst_worker.specs.Works.{Went}

-- ---- a share that goes on

-- the share's tasks fit their code
pub record CanRun (k : Code) (s : Share) : Type 0 where
  pub type : Tree
  pub code : IsTypedCode k type
  pub crew : Crew
  pub is : IsCrew k s crew
  pub fit : All (FitsIn (module_of k) type) (threads_of crew)

-- what the turns of a share's tasks keep
pub record Ran (k : Code) (a : Tree) (s u : Share) (b c : Crew) : Type 0 where
  pub went : Went (module_of k) a (threads_of b) (threads_of c)
  pub own : (w : Path → ℕ) → own_paths w c ≡ own_paths w b
  pub idle : All IsIdle b.forked → All IsIdle c.forked
  pub over : All (IsOver k) b.ended → All (IsOver k) c.ended
  pub counted : u.events + sum_by (λ (x : Thread). counts x.log) (threads_of b) ≡ s.events + sum_by
      (λ (x : Thread). counts x.log) (threads_of c)
  pub moved : u.moved ≡ false → s.moved ≡ false
  pub work : work_of (threads_of b) ≤ work_of (threads_of c)
  pub done : s.moved ≡ false → Grows u.moved (work_of (threads_of b)) (work_of (threads_of c))
  pub still : u.moved ≡ false → (w : Path → List LogEntry → ℕ) →
      sum_by (λ (x : Thread). w x.path x.log) (threads_of c) ≡ sum_by
      (λ (x : Thread). w x.path x.log) (threads_of b)
  pub tries : (z : EndName) → tries_of z (threads_of b) ≤ tries_of z (threads_of c)

-- the crew b has become one of which P holds
pub record Becomes (k : Code) (a : Tree) (P : Crew → Type 0) (s u : Share) (b : Crew) : Type 0 where
  pub crew : Crew
  pub is : IsCrew k u crew
  pub ran : Ran k a s u b crew
  pub so : P crew

-- so it is whatever threads the share's tasks were
abbrev pub Runs : Code → (Crew → Crew → Type 0) → Share → Share → Type 0
Runs k P s u = WhateverCrew k s (λ a b. Becomes k a (P b) s u b)

-- ---- one task

-- the thread at the place i is y, the others are as before, and new ones were forked
pub record IsAt (i : ℕ) (b c : Crew) (y : Thread) : Type 0 where
  pub tasks : c.tasks ≡ slice_set b.tasks i y
  pub new : List Thread
  pub forked : c.forked ≡ b.forked ++ new
  pub ended : c.ended ≡ b.ended

-- the thread y, which was x, asks at an end that has tried more
pub record AsksMore (k : Code) (x y : Thread) : Type 0 where
  pub asked : Request
  pub asks : request (module_of k).families y.now.state ≡ Some asked
  pub end : EndName
  pub at : end_of asked ≡ Some end
  pub tried : of_ends (tries_at end) x < of_ends (tries_at end) y

-- what one turn comes to
abbrev pub Comes : Code → Result Move AllocError → Thread → Thread → List Thread → Type 0
Comes k (Ok (Gained b)) x y new = (g : HasGained x y) × (once b ≡ counts_one g.entry.answer)
Comes k (Ok Offered) x y new = (y.log ≡ x.log) × (new ≡ []) × AsksMore k x y
Comes k (Ok Left) x y new = (y.log ≡ x.log) × (new ≡ []) × AsksMore k x y
Comes k (Ok Over) x y new = (y.log ≡ x.log) × (new ≡ []) × IsOver k y
Comes k (Err e) x y new = (y.log ≡ x.log) × (new ≡ [])

-- whether this tells of an event, an offer or a notice
abbrev pub is_move : Result Move AllocError → Bool
is_move (Ok (Gained b)) = true
is_move (Ok Offered) = true
is_move (Ok Left) = false
is_move (Ok Over) = false
is_move (Err e) = false

-- the thread at the place i has made a turn
pub record TurnedAt (k : Code) (a : Tree) (i : ℕ) (r : Result Move AllocError) (u : Share)
    (b : Crew) : Type 0 where
  pub crew : Crew
  pub is : IsCrew k u crew
  pub before : Thread
  pub after : Thread
  pub was : (e : Thread) → slice_index_or b.tasks i e ≡ before
  pub at : IsAt i b crew after
  pub goes : GoesOnTo (module_of k) a before after at.new
  pub done : Grows (is_move r) (work before) (work after + work_of at.new)
  pub tries : (z : EndName) → of_ends (tries_at z) before ≤ of_ends
      (tries_at z) after + tries_of z at.new
  pub comes : Comes k r before after at.new

-- so it is whatever threads the share's tasks were
abbrev pub TurnsAt : Code → ℕ → Result Move AllocError → Share → Share → Type 0
TurnsAt k i r s u = WhateverCrew k s (λ a b. TurnedAt k a i r u b)

-- the share after it has noted what a turn came to
abbrev pub noted : Move → Share → Share
noted (Gained b) s = record s { events = s.events + once b; moved = true }
noted Offered s = record s { moved = true }
noted Left s = s
noted Over s = s

-- the clock of the task at a place
abbrev pub clock_at : List TypedTask → ℕ → ℕ
clock_at [] i = 0
clock_at (t ∷ ts) zero = t.clock
clock_at (t ∷ ts) (suc i) = clock_at ts i

-- where a turn has led to
abbrev pub Leads : Code → Result Move AllocError → List Thread → List Thread → Thread → Type 0
Leads k (Ok (Gained b)) xs ys y = ⊤
Leads k (Ok Offered) xs ys y = HasAsked k xs ys y
Leads k (Ok Left) xs ys y = HasAsked k xs ys y
Leads k (Ok Over) xs ys y = IsOver k y
Leads k (Err e) xs ys y = ⊤

-- one turn at the place i
abbrev pub StepsAt : Code → ℕ → Result Move AllocError → Share → Share → Type 0
StepsAt k i r = Runs k (λ b c. (y : Thread) × IsAt i b c y ×
    Leads k r (threads_of b) (threads_of c) y)

-- the clock of the thread or the events exceed the steps, or memory was wanting
abbrev pub Exceeds : ℕ → Share → Thread → Type 0
Exceeds steps u y = (u.refused ≡ true) ⊎ ((steps < u.events) ⊎ (steps < y.now.clock))

-- where its turns have led to
abbrev pub Stops : Code → ℕ → Stop → Share → List Thread → List Thread → Thread → Type 0
Stops k steps Waits u xs ys y = HasAsked k xs ys y
Stops k steps Ends u xs ys y = IsOver k y
Stops k steps Halts u xs ys y = Exceeds steps u y

-- as many turns as it can make at the place i
abbrev pub StopsAt : Code → ℕ → ℕ → Stop → Share → Share → Type 0
StopsAt k i steps r s u = Runs k (λ b c. (y : Thread) × IsAt i b c y ×
    Stops k steps r u (threads_of b) (threads_of c) y) s u

-- ---- all tasks

-- each of the first ones asks at an end that was tried, or one of them exceeds the steps
abbrev pub FirstStop : Code → ℕ → ℕ → Bool → Share → List Thread → List Thread → List Thread →
    Type 0
FirstStop k steps kept false u xs ys ts =
    (j : ℕ) (e : Thread) → j < kept → HasAsked k xs ys (slice_index_or ts j e)
FirstStop k steps kept true u xs ys ts = (j : ℕ) × (j < kept) ×
    ((e : Thread) → Exceeds steps u (slice_index_or ts j e))

-- so many tasks before the place i are kept, and the others before it are over
pub record HasPassed (k : Code) (steps kept i : ℕ) (halted : Bool) (u : Share)
    (b c : Crew) : Type 0 where
  pub first : FirstStop k steps kept halted u (threads_of b) (threads_of c) c.tasks
  pub over : (j : ℕ) (e : Thread) → kept ≤ j → j < i → IsOver k (slice_index_or c.tasks j e)

-- so it is whatever threads the share's tasks were
abbrev pub PassesTo : Code → ℕ → ℕ → ℕ → Bool → Share → Share → Type 0
PassesTo k steps kept i halted s u = Runs k (HasPassed k steps kept i halted u) s u

-- the task at the place i has changed places with the first one that isn't kept
pub record IsPutBefore (kept i : ℕ) (s u : Share) : Type 0 where
  pub tasks : u.tasks.items ≡ swap s.tasks.items kept i
  pub forked : u.forked.items ≡ s.forked.items
  pub ended : u.ended.items ≡ s.ended.items
  pub marks : (u.events ≡ s.events) × (u.moved ≡ s.moved) × (u.refused ≡ s.refused)

-- after a pass each task that is left asks at an end that was tried, or one exceeds the steps
abbrev pub HasStopped : Code → ℕ → Share → Crew → Crew → Type 0
HasStopped k steps u b c = All (HasAsked k (threads_of b) (threads_of c)) c.tasks
    ⊎ ((j : ℕ) × (j < length c.tasks) ×
    ((e : Thread) → Exceeds steps u (slice_index_or c.tasks j e)))

-- a pass, or some
abbrev pub Passes : Code → ℕ → Share → Share → Type 0
Passes k steps s u = Runs k (HasStopped k steps u) s u

-- the tasks from a place on are over
abbrev pub AreOverFrom : Code → ℕ → List Thread → Type 0
AreOverFrom k kept xs = (j : ℕ) (e : Thread) → kept ≤ j → j < length xs →
    IsOver k (slice_index_or xs j e)

-- the first n tasks are left, and the others, all of which are over, are among those that have ended
abbrev pub RetiresTo : ℕ → ℕ → Share → Share → Type 0
RetiresTo kept n s u = (k : Code) → WhateverCrew k s
    (λ a b. AreOverFrom k kept b.tasks → Becomes k a (λ c. c.tasks ≡ take n b.tasks) s u b)

-- the events and what the share tells are the same
abbrev pub HasSameMarks : Share → Share → Type 0
HasSameMarks s u = (u.events ≡ s.events) × (u.moved ≡ s.moved) × (u.refused ≡ s.refused)

-- ---- the whole share

-- the share has run, and its threads were b
pub record HasWorked (k : Code) (a : Tree) (steps : ℕ) (s u : Share) (b : Crew) : Type 0 where
  pub crew : Crew
  pub is : IsCrew k u crew
  pub went : Went (module_of k) a (threads_of b) (threads_of crew)
  pub run : HasRun k steps s u b crew

-- so it is whatever threads its tasks were
abbrev pub Works : Code → ℕ → Share → Share → Type 0
Works k steps s u = WhateverCrew k s (λ a b. HasWorked k a steps s u b)
