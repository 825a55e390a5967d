-- A run on several workers.
use Rattle.std.specs.Prelude.{◌≤◌, ℕ, zero, List}
use Rattle.fst_types.specs.declared.event.ChannelHistory.{ChannelHistory}
use Rattle.fst_terms.specs.CoreTree.{CoreTree}
use Rattle.fst_terms.specs.declared.core_module.Module.{Module}
use Rattle.fst_machine.specs.declared.code.Code.{Code}
use Rattle.fst_vm.specs.declared.report.Outcome.{Outcome}
use Rattle.fst_vm.specs.declared.report.Outcome.TheVariants as outcome
use Rattle.fst_vm.specs.declared.report.Report.{Report}
use Rattle.fst_runs.specs.Configs.{program}
use Rattle.fst_runs.specs.Events.{IsLast}
use Rattle.fst_process.specs.declared.marks.TaskMarks.{TaskMarks}
use Rattle.fst_process.specs.Marks.{AreMarks, marks_from}
use Rattle.fst_process.specs.Reports.{IsAnswer, IsReport}
use Rattle.fst_records.specs.Growing.{events_of}
use Rattle.fst_records.specs.Records.{Course, FitsRecord, config_of, log_of, main_birth}
use Rattle.fst_safety.specs.declared.tasks.TypedTask.{TypedTask}
use Rattle.fst_safety.specs.Safety.{IsSafeAt}
use Rattle.fst_safety.specs.Tasks.{CanBegin, main_thread, module_of}
use Rattle.fst_safety.specs.Threads.{Thread}
use Rattle.fst_safety.specs.Turns.{birth}
use Rattle.fst_worker.specs.declared.workers.Logged.{Logged}
use Rattle.fst_worker.specs.declared.workers.Logged.TheVariants.{Done, OutOfSteps}
use Rattle.fst_worker.specs.Works.{IsRun}
use Rattle.fst_worker.specs.Events.{IsRecordAnswer}
use Rattle.fst_worker.specs.Shares.{AreKept}

-- these are all tasks of a run that has begun there
pub record AreAtWork (k : Code) (d : CanBegin k) (ts : List TypedTask) : Type 0 where
  pub threads : List Thread
  pub kept : AreKept k ts threads
  pub run : IsRun (module_of k) d.type (birth (main_thread d.main)) threads

-- so it is wherever the code can have begun
abbrev pub IsWholeRun : Code → List TypedTask → Type 0
IsWholeRun k ts = (d : CanBegin k) → AreAtWork k d ts

-- the report of the module's least run, or that it has more events than these
abbrev pub IsWorkedOut : Code → ℕ → Outcome → Type 0
IsWorkedOut k steps o = (d : CanBegin k) → IsAnswer k.module.value d.main steps o

-- the report of a record that fits the module, has at most so many events and allows no other, or that one that fits has more
abbrev pub IsOnRecord : Code → ℕ → Outcome → Type 0
IsOnRecord k steps o = (d : CanBegin k) →
    IsRecordAnswer k.module.value (main_birth d.main) steps o

-- a record that fits the module, is safe, allows no other event and has at most so many, with this report and these marks
pub record IsMarkedRecord (m : Module) (main : CoreTree) (steps : ℕ) (r : Report)
    (ts : List TaskMarks) : Type 0 where
  pub tasks : List Course
  pub channels : List ChannelHistory
  pub fits : FitsRecord (program m) m.types.items (main_birth main) tasks channels
  pub safe : IsSafeAt m (config_of tasks channels)
  pub last : IsLast (program m) m.types.items (config_of tasks channels)
  pub few : events_of tasks channels ≤ steps
  pub report : IsReport (program m) (config_of tasks channels) (events_of tasks channels) r
  pub marks : AreMarks ts (λ p. marks_from p zero (log_of tasks p))

-- the report of the module's least run, which is that of such a record with these marks, or that the least run and a record that fits
-- have more events
abbrev pub IsLoggedOut : Code → ℕ → Logged → Type 0
IsLoggedOut k steps (Done r ts) = (d : CanBegin k) →
    IsAnswer k.module.value d.main steps (outcome.Done r) ×
    IsMarkedRecord k.module.value d.main steps r ts.items
IsLoggedOut k steps OutOfSteps = (d : CanBegin k) →
    IsAnswer k.module.value d.main steps outcome.OutOfSteps ×
    IsRecordAnswer k.module.value (main_birth d.main) steps outcome.OutOfSteps
