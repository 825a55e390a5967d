-- What is kept along the least buffered run.
use Rattle.std.specs.Prelude.{◌≡◌, ◌<◌, ℕ, true, false, Option, Some, None, List, length}
use Rattle.fst_terms.specs.CoreTree.{CoreTree}
use Rattle.fst_terms.specs.declared.core_module.Module.{Module}
use Rattle.fst_machine.specs.declared.code.Code.{Code}
use Rattle.fst_machine.specs.declared.request.Request.{Request}
use Rattle.fst_vm.specs.Tasks.{IsFrom}
use Rattle.fst_runs.specs.Configs.{Path, program, main_body}
use Rattle.fst_runs.specs.Least.{IsBefore}
use Rattle.fst_runs.specs.Names.{HasMakers, HasParents}
use Rattle.fst_vm.specs.declared.report.Report.{Report}
use Rattle.fst_process.specs.Reports.{IsReport}
use Rattle.fst_buffered.specs.Answers.{RunsRight, AreUnread}
use Rattle.fst_buffered.specs.Channels.{Config, AreWithin, core, started}
use Rattle.fst_buffered.specs.Events.{Occurrence, RunsLeast, path_of}
use Rattle.fst_vm.specs.Slot.{Slot}
use Rattle.fst_buffered.specs.Kept.{Kept, Reflects, IsPossible, Happens}

-- the least task that can move has this path, or none can
abbrev pub IsNextTask : Kept → Option Path → Type 0
IsNextTask d None = (q : Path) → d.ready q ≡ false
IsNextTask d (Some p) = (d.ready p ≡ true) × ((q : Path) → IsBefore q p → d.ready q ≡ false)

-- the task with this path is there, and asks for this
abbrev pub IsAsking : Kept → Path → Request → Type 0
IsAsking d p q = (s : Slot) × (d.tasks p ≡ Some s) × (s.request ≡ q)

-- the task with this path can do something
abbrev pub CanDo : Code → ℕ → Kept → Path → Type 0
CanDo k capacity d p = (o : Occurrence) × (path_of o ≡ p) × IsPossible k capacity d o

-- what is kept after whatever the task with this path does is the configuration after it
abbrev pub Steps : Code → ℕ → Kept → Path → Kept → Type 0
Steps k capacity d p f = (o : Occurrence) → path_of o ≡ p → Happens k capacity d o f

-- what is kept is what the least buffered run has come to after n events
pub record IsReached (m : Module) (k : Code) (main : CoreTree) (capacity n : ℕ)
    (d : Kept) : Type 0 where
  pub events : List Occurrence
  pub config : Config
  pub runs : RunsLeast (program m) m.types.items capacity (started main) events config
  pub many : length events ≡ n
  pub reflects : Reflects m k capacity n d config
  pub makers : HasMakers (core config)
  pub parents : HasParents (core config)

-- so it is for each module whose code this is and of which no buffered run goes wrong
abbrev pub IsKept : Code → ℕ → ℕ → Kept → Type 0
IsKept k capacity n d = (m : Module) (e : CoreTree) → IsFrom m k →
    main_body m.globals.items ≡ Some e → RunsRight m e capacity → IsReached m k e capacity n d

-- what is kept is some configuration after not too many events
pub record IsConfig (d : Kept) : Type 0 where
  pub source : Module
  pub code : Code
  pub capacity : ℕ
  pub events : ℕ
  pub config : Config
  pub reflects : Reflects source code capacity events d config
  pub few : events < 4294967295

-- the report, with how many entries of each channel are unread, is that of each configuration that is kept and in which no side's
-- view is longer than the history
abbrev pub IsReported : Kept → ℕ → Report → List ℕ → Type 0
IsReported d n r unread =
    (m : Module) (k : Code) (capacity l : ℕ) (c : Config) → Reflects m k capacity l d c →
    AreWithin c → IsReport (program m) (core c) n r × AreUnread c r.channels.items unread
