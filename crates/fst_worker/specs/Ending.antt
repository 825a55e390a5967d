-- Tasks whose ends were taken from them at the end of a run, and tasks that are told what became of their offers.
use Rattle.std.specs.Prelude.{◌≡◌, ◌⊎◌, ℕ, Option, Some, None, IsSome, List, [], ◌∷◌, ◌++◌, map, All, Contains, ⊤}
use Rattle.fst_types.specs.Tree.{Tree}
use Rattle.fst_types.specs.declared.ends.EndName.{EndName}
use Rattle.fst_types.specs.declared.event.ChannelHistory.{ChannelHistory}
use Rattle.fst_machine.specs.declared.code.Code.{Code}
use Rattle.fst_vm.specs.TaskView.{TaskView}
use Rattle.fst_cell.specs.declared.answers.Closed.{Closed}
use Rattle.fst_cell.specs.End.{EndView, end_name}
use Rattle.fst_safety.specs.declared.tasks.TypedTask.{TypedTask}
use Rattle.fst_runs.specs.Logs.{Birth}
use Rattle.fst_safety.specs.Tasks.{IsTypedCode, module_of}
use Rattle.fst_safety.specs.Threads.{Thread}
use Rattle.fst_worker.specs.declared.ending.Bare.{Bare}
use Rattle.fst_worker.specs.declared.ending.TaskLog.{TaskLog}
use Rattle.fst_records.specs.Records.{Course}
use Rattle.fst_worker.specs.Works.{course_of}
use Rattle.fst_worker.specs.Records.{Pair, IsOver}
use Rattle.fst_worker.specs.Configs.{Stayed, Told, AreTold}
use Rattle.fst_worker.specs.Resumes.{IsTaskOf, AreTasksOf}

-- ---- tasks without their ends

-- none of these ends waits, or one of this name does
abbrev pub TellsWaiting : List EndView → Option EndName → Type 0
TellsWaiting es None = All (λ (e : EndView). e.knows.offer ≡ None) es
TellsWaiting es (Some n) = (e : EndView) × Contains es e × (end_name e ≡ n) × IsSome e.knows.offer

-- the task is that without its ends
pub record IsBare (t : TypedTask) (b : Bare) : Type 0 where
  pub task : b.task ≡ t.task
  pub clock : b.clock ≡ t.clock
  pub log : b.log.items ≡ t.log.items
  pub waits : TellsWaiting t.bag.items b.waits

-- so is each of these
abbrev pub AreBare : List TypedTask → List Bare → Type 0
AreBare [] [] = ⊤
AreBare [] (b ∷ bs) = ⊥
AreBare (t ∷ ts) [] = ⊥
AreBare (t ∷ ts) (b ∷ bs) = IsBare t b × AreBare ts bs

-- the ends of all tasks
abbrev pub ends_of : List TypedTask → List EndView
ends_of [] = []
ends_of (t ∷ ts) = (t.bag.items ++ t.retired.items) ++ ends_of ts

-- ---- tasks that are told

-- the task without its ends is that of the thread
pub record IsBareOf (k : Code) (b : Bare) (x : Thread) : Type 0 where
  pub task : IsTaskOf k.module.value k b.task b.clock (course_of x)
  pub log : b.log.items ≡ x.log
  pub waits : TellsWaiting x.bag b.waits

-- so is each of these
abbrev pub AreBareOf : Code → List Bare → List Thread → Type 0
AreBareOf k [] [] = ⊤
AreBareOf k [] (x ∷ xs) = ⊥
AreBareOf k (b ∷ bs) [] = ⊥
AreBareOf k (b ∷ bs) (x ∷ xs) = IsBareOf k b x × AreBareOf k bs xs

-- a run of the code's module is over, and closing the channels gave this
pub record HasEnded (k : Code) (cs : List Closed) : Type 0 where
  pub type : Tree
  pub code : IsTypedCode k type
  pub main : Birth
  pub threads : List Thread
  pub pairs : List Pair
  pub over : IsOver (module_of k) type main threads pairs
  pub closed : map (λ (p : Pair). p.closed) pairs ≡ cs

-- the task is that of a thread of such a run
pub record IsTellable (k : Code) (b : Bare) (cs : List Closed) : Type 0 where
  pub run : HasEnded k cs
  pub thread : Thread
  pub there : Contains run.threads thread
  pub bare : IsBareOf k b thread

-- this is the log of the course
pub record IsLogOf (l : TaskLog) (y : Course) : Type 0 where
  pub path : l.path ≡ y.path
  pub entries : l.entries.items ≡ y.log

-- these are the logs of these courses, one each, in order
abbrev pub AreLogsOf : List TaskLog → List Course → Type 0
AreLogsOf [] [] = ⊤
AreLogsOf [] (y ∷ ys) = ⊥
AreLogsOf (l ∷ ls) [] = ⊥
AreLogsOf (l ∷ ls) (y ∷ ys) = IsLogOf l y × AreLogsOf ls ys

-- the thread has stayed as it was, or was told that its offer was taken, and these are the task and the log of its course
pub record IsToldTo (k : Code) (ks : List ChannelHistory) (x : Thread) (t : TaskView) (clock : ℕ)
    (l : TaskLog) : Type 0 where
  pub after : Course
  pub told : Stayed ks x after ⊎ Told (module_of k) ks x after
  pub task : IsTaskOf k.module.value k t clock after
  pub log : IsLogOf l after

-- the tasks are those of all threads of such a run
pub record AreTellable (k : Code) (bs : List Bare) (cs : List Closed) : Type 0 where
  pub run : HasEnded k cs
  pub bare : AreBareOf k bs run.threads

-- all threads were told, and these are the tasks and the logs of their courses
pub record AreToldTo (k : Code) (ks : List ChannelHistory) (xs : List Thread)
    (ts : List (TaskView × ℕ)) (ls : List TaskLog) : Type 0 where
  pub after : List Course
  pub told : AreTold (module_of k) ks xs after
  pub tasks : AreTasksOf k.module.value k ts after
  pub logs : AreLogsOf ls after
