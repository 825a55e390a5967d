-- What turns make of threads, and what holds of all threads of a run together.
use Rattle.std.specs.Prelude.{◌≡◌, ℕ, zero, suc, ◌+◌, ◌<◌, List, ◌∷◌, ◌++◌, sum_by, All, Contains, IsPermutation}
use Rattle.atomic_table.specs.Seated.{TableId}
use Rattle.fst_types.specs.Tree.{Tree}
use Rattle.fst_types.specs.declared.side.Side.{Side}
use Rattle.fst_types.specs.declared.side.Side.TheVariants.{Left, Right}
use Rattle.fst_derivations.specs.Rules.{Surroundings}
use Rattle.fst_types.specs.declared.ends.ChannelName.{ChannelName}
use Rattle.fst_types.specs.declared.ends.EndName.{EndName}
use Rattle.fst_runs.specs.Configs.{main_path}
use Rattle.fst_runs.specs.Wrong.{held_state}
use Rattle.fst_cell.specs.End.{EndView}
use Rattle.fst_runs.specs.declared.log.LogEntry.{LogEntry}
use Rattle.fst_safety.specs.WellTyped.{program_in}
use Rattle.fst_runs.specs.Logs.{Birth, Exchange}
use Rattle.fst_records.specs.Records.{Course, bears as course_bears, opens as course_opens, trades as course_trades}
use Rattle.fst_safety.specs.Threads.{Thread, FitsIn, count_of}
use Rattle.fst_safety.specs.Turns.{of_ends, by_type, by_cell, by_exchanges, birth}
use Rattle.fst_safety.specs.Going.{GoesOnTo}

-- ---- turns

-- one of the threads xs goes on, and with it they are ys
pub record Step (m : Surroundings) (a : Tree) (xs ys : List Thread) : Type 0 where
  pub task : Thread
  pub after : Thread
  pub new : List Thread
  pub rest : List Thread
  pub goes : GoesOnTo m a task after new
  pub before_is : IsPermutation xs (task ∷ rest)
  pub after_is : IsPermutation (after ∷ (new ++ rest)) ys

-- the threads xs are ys after so many turns
abbrev pub Turns : Surroundings → Tree → ℕ → List Thread → List Thread → Type 0
Turns m a zero xs ys = IsPermutation xs ys
Turns m a (suc n) xs ys = (zs : List Thread) × Turns m a n xs zs × Step m a zs ys

-- the threads go on by turns alone
pub record Went (m : Surroundings) (a : Tree) (xs ys : List Thread) : Type 0 where
  pub count : ℕ
  pub turns : Turns m a count xs ys

-- the thread y is x with a longer log, and with all spent ends that x had
pub record IsLonger (x y : Thread) : Type 0 where
  pub path : y.path ≡ x.path
  pub first : y.first ≡ x.first
  pub gained : List LogEntry
  pub log : y.log ≡ x.log ++ gained
  pub spent : List EndView
  pub kept : y.retired ≡ x.retired ++ spent

-- the thread is one of ys, with a longer log
abbrev pub GoesOnIn : List Thread → Thread → Type 0
GoesOnIn ys x = (y : Thread) × Contains ys y × IsLonger x y

-- ---- all threads together

-- the course of a thread: the thread without its ends
abbrev pub course_of : Thread → Course
course_of x = record { path = x.path; first = x.first; log = x.log; now = x.now }

-- the births that the log of a thread makes, the channels that it opens, and what it exchanges, however these are weighed
abbrev pub bears : Surroundings → (Birth → ℕ) → Thread → ℕ
bears m w x = course_bears (program_in m) w (course_of x)

-- the channels
abbrev pub opens : Surroundings → (ChannelName → Tree → ℕ) → Thread → ℕ
opens m w x = course_opens m.types w (course_of x)

-- the exchanges
abbrev pub trades : (Exchange → ℕ) → Thread → ℕ
trades w x = course_trades w (course_of x)

-- an end that stands in the thread's state and isn't open is among the spent ends of one of the threads
abbrev pub IsKnownIn : List Thread → Thread → Type 0
IsKnownIn xs x = (z : EndName) → 0 < held_state z x.now.state → count_of z x.bag ≡ 0 → 0 < sum_by
    (λ (y : Thread). count_of z y.retired) xs

-- all threads of a run, which main began, with nothing left out
pub record Whole (m : Surroundings) (main : Birth) (xs : List Thread) : Type 0 where
  -- the threads are main's and those that the logs fork, each as its fork gives it
  pub births : (w : Birth → ℕ) → sum_by
      (λ (x : Thread). w (birth x)) xs ≡ w main + sum_by (bears m w) xs
  -- the ends of each side are those of the channels that the logs make, with the declared types
  pub typed : (s : Side) (w : ChannelName → Tree → ℕ) →
      sum_by (of_ends (by_type s w)) xs ≡ sum_by (opens m w) xs
  -- as many left as right ends have a name and a cell
  pub cells : (w : ChannelName → TableId → ℕ) →
      sum_by (of_ends (by_cell Left w)) xs ≡ sum_by (of_ends (by_cell Right w)) xs
  -- what the ends have exchanged is what the logs say
  pub exchanged : (w : Exchange → ℕ) → sum_by (of_ends (by_exchanges w)) xs ≡ sum_by (trades w) xs
  -- each end that stands in a state and isn't open there is among the spent ones
  pub known : All (IsKnownIn xs) xs

-- all threads of a run, in which main has the type a
pub record IsRun (m : Surroundings) (a : Tree) (main : Birth) (xs : List Thread) : Type 0 where
  pub root : main.path ≡ main_path
  pub fit : All (FitsIn m a) xs
  pub whole : Whole m main xs
