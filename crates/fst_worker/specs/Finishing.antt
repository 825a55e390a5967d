-- A run that is finished on the machine.
use Rattle.std.specs.Prelude.{◌≡◌, ◌<◌, ◌≤◌, ℕ, zero, Option, Some, None, List, [], ◌∷◌, length, sum_by, ⊤}
use Rattle.fst_types.specs.Tree.{Tree}
use Rattle.fst_types.specs.declared.event.ChannelHistory.{ChannelHistory}
use Rattle.fst_terms.specs.CoreTree.{CoreTree}
use Rattle.fst_machine.specs.declared.code.Code.{Code}
use Rattle.fst_vm.specs.declared.report.Outcome.{Outcome}
use Rattle.fst_vm.specs.declared.report.Outcome.TheVariants as outcome
use Rattle.fst_process.specs.declared.marks.TaskMarks.{TaskMarks}
use Rattle.fst_process.specs.KeptOf.{kept_of}
use Rattle.fst_process.specs.Marks.{marks_from}
use Rattle.fst_process.specs.Reflects.{Reflects}
use Rattle.fst_cell.specs.declared.answers.Closed.{Closed}
use Rattle.fst_runs.specs.declared.log.LogEntry.{LogEntry}
use Rattle.fst_safety.specs.declared.tasks.TypedTask.{TypedTask}
use Rattle.fst_runs.specs.Configs.{program}
use Rattle.fst_runs.specs.Logs.{Birth}
use Rattle.fst_safety.specs.Safety.{StaysSafe}
use Rattle.fst_safety.specs.Tasks.{IsTypedCode, module_of}
use Rattle.fst_safety.specs.Threads.{Thread}
use Rattle.fst_records.specs.Growing.{alone, events_of}
use Rattle.fst_records.specs.Records.{Course, FitsRecord, config_of, main_birth}
use Rattle.fst_worker.specs.declared.ending.TaskLog.{TaskLog}
use Rattle.fst_worker.specs.declared.finishing.Settled.{Settled}
use Rattle.fst_worker.specs.declared.workers.Logged.{Logged}
use Rattle.fst_worker.specs.declared.workers.Logged.TheVariants.{Done, OutOfSteps}
use Rattle.fst_worker.specs.Ending.{AreLogsOf}
use Rattle.fst_worker.specs.Events.{IsRecordAnswer}
use Rattle.fst_worker.specs.Resumes.{GoesRight}
use Rattle.fst_worker.specs.Shares.{AreKept}
use Rattle.fst_worker.specs.Working.{IsMarkedRecord}
use Rattle.fst_worker.specs.Works.{IsRun}

-- the tasks are all tasks of a run of the code's module
pub record AreRunOf (k : Code) (ts : List TypedTask) : Type 0 where
  pub type : Tree
  pub code : IsTypedCode k type
  pub main : Birth
  pub begins : main.first.clock ≡ 0
  pub threads : List Thread
  pub kept : AreKept k ts threads
  pub run : IsRun (module_of k) type main threads

-- ---- the record that its tasks and channels are at the end

-- a record that fits, has at most so many events and stays safe, whose configuration is what is kept, and whose logs these are
pub record IsRecordKept (k : Code) (main : Birth) (steps : ℕ) (s : Settled) : Type 0 where
  pub tasks : List Course
  pub channels : List ChannelHistory
  pub fits : FitsRecord (program k.module.value) k.module.value.types.items main tasks channels
  pub stays : StaysSafe k.module.value (config_of tasks channels)
  pub goes : GoesRight k.module.value (config_of tasks channels)
  pub reflects : Reflects k.module.value k (events_of tasks channels) (kept_of s.config)
      (config_of tasks channels)
  pub events : s.config.events ≡ events_of tasks channels
  pub few : events_of tasks channels ≤ steps
  pub logs : AreLogsOf s.logs.items tasks

-- such a record is kept, or one that fits has more events
abbrev pub IsSettled : Code → List TypedTask → ℕ → Option Settled → Type 0
IsSettled k ts steps None = (d : AreRunOf k ts) →
    IsRecordAnswer k.module.value d.main steps outcome.OutOfSteps
IsSettled k ts steps (Some s) = (d : AreRunOf k ts) → IsRecordKept k d.main steps s

-- ---- what the run comes to from there

-- this is answered by each record that the run can be finished to
abbrev pub IsFinished : Code → List TypedTask → ℕ → Outcome → Type 0
IsFinished k ts steps o = (d : AreRunOf k ts) → IsRecordAnswer k.module.value d.main steps o

-- this is such a report with the marks of the record, or a record that fits has more events
abbrev pub IsLogged : Code → List TypedTask → ℕ → Logged → Type 0
IsLogged k ts steps (Done r us) = (d : AreRunOf k ts) → (e : CoreTree) → d.main ≡ main_birth e →
    IsMarkedRecord k.module.value e steps r us.items
IsLogged k ts steps OutOfSteps = (d : AreRunOf k ts) →
    IsRecordAnswer k.module.value d.main steps outcome.OutOfSteps

-- these are the marks of the log
pub record IsMarksOf (l : TaskLog) (t : TaskMarks) : Type 0 where
  pub path : t.path ≡ l.path
  pub marks : t.marks.items ≡ marks_from l.path zero l.entries.items

-- these are the marks of these logs, one each, in order
abbrev pub AreMarksOf : List TaskLog → List TaskMarks → Type 0
AreMarksOf [] [] = ⊤
AreMarksOf [] (t ∷ ts) = ⊥
AreMarksOf (l ∷ ls) [] = ⊥
AreMarksOf (l ∷ ls) (t ∷ ts) = IsMarksOf l t × AreMarksOf ls ts

-- ---- events that are counted

-- how many entries of a log are for what the task does alone
abbrev pub alone_in : List LogEntry → ℕ
alone_in es = sum_by (λ (e : LogEntry). alone e.answer) es

-- how many such entries these tasks have
abbrev pub alone_of : List TypedTask → ℕ
alone_of ts = sum_by (λ (t : TypedTask). alone_in t.log.items) ts

-- how many entries the histories of closed channels have
abbrev pub entries_of : List Closed → ℕ
entries_of cs = sum_by (λ (c : Closed). length c.history.entries.items) cs

-- what was counted is n, or both are more than the steps
pub record IsUpTo (steps n count : ℕ) : Type 0 where
  pub all : count ≤ steps → count ≡ n
  pub more : steps < count → steps < n
