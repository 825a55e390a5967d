-- What the machine needs that goes on from the tasks and the closed channels of a run.
use Rattle.std.specs.List.Sorted.{IsStrictlySortedBy}
use Rattle.std.specs.Prelude.{◌≡◌, ◌≤◌, ℕ, zero, Some, All, Contains, IsPermutation, List, [], ◌∷◌, map, ⊤}
use Rattle.fst_types.specs.Tree.{Tree}
use Rattle.fst_terms.specs.declared.core_module.Module.{Module}
use Rattle.fst_derivations.specs.Deriv.{Deriv}
use Rattle.fst_derivations.specs.Modules.{HasDerivations, surroundings}
use Rattle.fst_derivations.specs.Rules.{Surroundings}
use Rattle.fst_types.specs.declared.event.Entry.{Entry}
use Rattle.fst_machine.specs.declared.code.Code.{Code}
use Rattle.fst_machine.specs.declared.request.Answer.TheVariants.{Sent}
use Rattle.fst_machine.specs.Machine.{State, stuck, pause, answered}
use Rattle.fst_vm.specs.TaskView.{TaskView}
use Rattle.fst_vm.specs.Tasks.{IsFrom, IsIn, GoesOn}
use Rattle.fst_runs.specs.Configs.{Config, program, Histories, ChannelsWithin}
use Rattle.fst_runs.specs.Names.{HasMakers, HasParents}
use Rattle.fst_process.specs.Kept.{Kept}
use Rattle.fst_process.specs.Resuming.{Tasks, AreAll, AreNumbered, TasksWithin, CanResume, IsResumed}
use Rattle.fst_process.specs.Runs.{RunsRightFrom, CanRunFrom}
use Rattle.fst_cell.specs.declared.answers.Closed.{Closed}
use Rattle.fst_cell.specs.End.{EndView}
use Rattle.fst_runs.specs.Logs.{Birth}
use Rattle.fst_safety.specs.Sound.{IsSound}
use Rattle.fst_safety.specs.Threads.{Thread}
use Rattle.fst_records.specs.Records.{Course, config_of}
use Rattle.fst_worker.specs.Works.{course_of}
use Rattle.fst_worker.specs.Records.{Pair, IsOver, histories_of, missing}
use Rattle.fst_worker.specs.Closing.{name_cmp, names_of}
use Rattle.fst_worker.specs.Configs.{Stayed, Told, AreTold}

-- no run from the configuration goes wrong, and its names are those that counts have given
pub record GoesRight (m : Module) (c : Config) : Type 0 where
  pub right : RunsRightFrom m c
  pub makers : HasMakers c
  pub parents : HasParents c

-- so it is with each sound configuration of a module that has derivations
abbrev pub RightLaw : Type 0
RightLaw = (m : Module) (ds : List Deriv) → HasDerivations m ds →
    (a : Tree) (c : Config) → IsSound (surroundings m []) a c → GoesRight m c

-- ---- tasks as the machine keeps them

-- the task with this clock is that of the course
pub record IsTaskOf (m : Module) (k : Code) (t : TaskView) (clock : ℕ) (y : Course) : Type 0 where
  pub path : t.path ≡ y.path
  pub is_in : IsIn m k t y.now.state
  pub forked : t.forked ≡ y.now.forked
  pub time : clock ≡ y.now.clock

-- these are the tasks of these courses, in order
abbrev pub AreTasksOf : Module → Code → Tasks → List Course → Type 0
AreTasksOf m k [] [] = ⊤
AreTasksOf m k [] (y ∷ ys) = ⊥
AreTasksOf m k (t ∷ ts) [] = ⊥
AreTasksOf m k (t ∷ ts) (y ∷ ys) = IsTaskOf m k t.0 t.1 y × AreTasksOf m k ts ys

-- the thread can be told that what its end offers was sent
pub record Tells (m : Module) (ks : Histories) (x : Thread) : Type 0 where
  -- this leads to a state that has a next request
  pub state : State
  pub leads : answered (program m) x.now.state Sent ≡ Some state
  pub alive : pause m.families.items state ≡ stuck → ⊥
  -- the task that has gone on after the answer is that of the thread that was told
  pub goes_on : (k : Code) (t u : TaskView) (clock : ℕ) → IsFrom m k →
      IsTaskOf m k t clock (course_of x) → GoesOn k t Sent u → (y : Course) →
      Told (surroundings m []) ks x y → IsTaskOf m k u y.now.clock y

-- no clock of these tasks is over n
abbrev pub ClocksWithin : ℕ → Tasks → Type 0
ClocksWithin n [] = ⊤
ClocksWithin n (t ∷ ts) = (t.1 ≤ n) × ClocksWithin n ts

-- ---- laws

-- the threads of a run whose channels were closed can be told what their ends lack, and are as they were where they lack nothing
pub record CanTell (m : Module) (ks : Histories) (xs : List Thread) : Type 0 where
  pub told : All (λ (x : Thread). (e : EndView) (d : Entry) → Contains x.bag e →
      missing ks e ≡ Some d → Tells m ks x) xs
  pub stays : (k : Code) (t : TaskView) (clock : ℕ) (x : Thread) (y : Course) →
      IsTaskOf m k t clock (course_of x) → Stayed ks x y → IsTaskOf m k t clock y

-- so it is where all channels of a run were closed
abbrev pub TellLaw : Type 0
TellLaw = (m : Module) (ds : List Deriv) → HasDerivations m ds →
    (a : Tree) (main : Birth) (xs : List Thread) (ps : List Pair) →
    IsOver (surroundings m []) a main xs ps → CanTell m (histories_of ps) xs

-- tasks and channels that the machine can go on from
pub record Resumes (m : Module) (k : Code) (ts : Tasks) (hs : Histories) (c : Config) : Type 0 where
  -- they are all of the configuration, from which no run goes wrong
  pub all : AreAll m k ts hs c
  pub goes : GoesRight m c
  pub can_resume : CanResume k ts hs
  -- no number of theirs is over n where no clock is
  pub within : (n : ℕ) → ClocksWithin n ts → TasksWithin n ts × ChannelsWithin n hs
  -- so what is kept of them can run on, after n events
  pub can_run : (n : ℕ) → ClocksWithin n ts → (d : Kept) → IsResumed k ts hs d → CanRunFrom k n d

-- where all channels of a run were closed, and each task is told what its end lacks, the machine can go on from the tasks and the
-- closed channels, where these come in the order in which each task has made them
abbrev pub ResumeLaw : Type 0
ResumeLaw = (m : Module) (ds : List Deriv) → HasDerivations m ds →
    (a : Tree) (main : Birth) (xs : List Thread) (ps : List Pair) →
    IsOver (surroundings m []) a main xs ps →
    (ys : List Course) → AreTold (surroundings m []) (histories_of ps) xs ys →
    (k : Code) (ts : Tasks) (hs : Histories) → IsFrom m k → AreTasksOf m k ts ys →
    IsPermutation (histories_of ps) hs → AreNumbered (λ p. zero) hs →
    Resumes m k ts hs (config_of ys hs)

-- so the closed channels of a run come where their names rise
abbrev pub OrderLaw : Type 0
OrderLaw = (m : Surroundings) (a : Tree) (main : Birth) (xs : List Thread) (ps : List Pair) →
    IsOver m a main xs ps →
    (cs : List Closed) → map (λ (p : Pair). p.closed) ps ≡ cs →
    IsStrictlySortedBy name_cmp (names_of cs) →
    AreNumbered (λ p. zero) (map (λ (c : Closed). c.history) cs)
