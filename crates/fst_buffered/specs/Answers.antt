-- What a buffered run answers.
use Rattle.std.specs.Prelude.{◌≡◌, ◌≤◌, ◌+◌, ℕ, suc, min, Some, List, [], ◌∷◌, ⊤, length, Contains, Vec}
use Rattle.std.specs.Global.{Global}
use Rattle.fst_types.specs.Tree.{Tree}
use Rattle.fst_kinds.specs.WellFormed.{IsSession}
use Rattle.fst_lts.specs.Histories.{after_history}
use Rattle.fst_terms.specs.CoreTree.{CoreTree}
use Rattle.fst_terms.specs.declared.core_module.Module.{Module}
use Rattle.fst_derivations.specs.Deriv.{Deriv}
use Rattle.fst_derivations.specs.Modules.{HasDerivations}
use Rattle.fst_value.specs.ValueTree.{ValueTree}
use Rattle.fst_types.specs.declared.event.ChannelHistory.{ChannelHistory}
use Rattle.fst_machine.specs.Values.{Value}
use Rattle.fst_machine.specs.declared.code.Code.{Code}
use Rattle.fst_vm.specs.Tasks.{IsFrom}
use Rattle.fst_runs.specs.Configs.{program, main_body}
use Rattle.fst_vm.specs.declared.report.Report.{Report}
use Rattle.fst_process.specs.Reports.{IsAlike, IsReport}
use Rattle.fst_safety.specs.Safety.{HasMainType}
use Rattle.fst_buffered.specs.declared.outcome.BufferedOutcome.{BufferedOutcome}
use Rattle.fst_buffered.specs.declared.outcome.BufferedOutcome.TheVariants.{Done, OutOfSteps}
use Rattle.fst_buffered.specs.Channels.{Channel, Config, core, started}
use Rattle.fst_buffered.specs.Events.{Occurrence, Runs, RunsLeast, IsLast}
use Rattle.fst_buffered.specs.Wrong.{IsRight}

-- so many entries of the channel are there that one side hasn't taken
abbrev pub IsUnread : Config → ChannelHistory → ℕ → Type 0
IsUnread c j n = (k : Channel) × (c.channels j.name ≡ Some k) ×
    (n + min k.left k.right ≡ length k.history)

-- so it is for each channel, in order
abbrev pub AreUnread : Config → List ChannelHistory → List ℕ → Type 0
AreUnread c [] [] = ⊤
AreUnread c [] (n ∷ ns) = ⊥
AreUnread c (j ∷ js) [] = ⊥
AreUnread c (j ∷ js) (n ∷ ns) = IsUnread c j n × AreUnread c js ns

-- what the least buffered run of the module comes to within so many events: its report, in which every stamp is 0, and for each
-- channel how many entries one side hasn't taken
abbrev pub IsAnswer : Module → CoreTree → ℕ → ℕ → BufferedOutcome → Type 0
IsAnswer m e capacity steps (Done r unread) =
    (es : List Occurrence) × (c : Config) ×
    RunsLeast (program m) m.types.items capacity (started e) es c ×
    IsLast (program m) m.types.items capacity c ×
    (length es ≤ steps) × IsReport (program m) (core c) (length es) r ×
    AreUnread c r.channels.items unread.items
IsAnswer m e capacity steps OutOfSteps =
    (es : List Occurrence) × (c : Config) ×
    RunsLeast (program m) m.types.items capacity (started e) es c × (length es ≡ suc steps)

-- no buffered run of the module from main's body goes wrong
abbrev pub RunsRight : Module → CoreTree → ℕ → Type 0
RunsRight m e capacity = (es : List Occurrence) (c : Config) →
    Runs (program m) m.types.items capacity (started e) es c → IsRight (program m) c

-- the code is that of a module of which none does
pub record CanRun (k : Code) (capacity : ℕ) : Type 0 where
  pub source : Module
  pub main : CoreTree
  pub from : IsFrom source k
  pub body : main_body source.globals.items ≡ Some main
  pub right : RunsRight source main capacity

-- what so many steps of the least buffered run come to, of each module whose code this is and of which none goes wrong
abbrev pub IsOutcome : Code → ℕ → ℕ → BufferedOutcome → Type 0
IsOutcome k capacity steps o = (m : Module) (e : CoreTree) → IsFrom m k →
    main_body m.globals.items ≡ Some e → RunsRight m e capacity → IsAnswer m e capacity steps o

-- each channel of the report has a closed well-formed session type, of which its history is a trace; and main's value, where it is
-- there, is one of main's type, in which no function and no end stands
pub record IsSoundReport (m : Module) (r : Report) : Type 0 where
  pub sessions : (j : ChannelHistory) → Contains r.channels.items j → IsSession [] j.declared
  pub traces : (j : ChannelHistory) → Contains r.channels.items j → (t : Tree) ×
      (after_history j.declared j.entries.items ≡ Some t)
  pub result : (x : ValueTree) → r.result ≡ Some x → (v : Value) × HasMainType m v × IsAlike x v

-- so it is where there is a report
abbrev pub IsSoundOutcome : Module → BufferedOutcome → Type 0
IsSoundOutcome m (Done r unread) = IsSoundReport m r
IsSoundOutcome m OutOfSteps = ⊤

-- the report that the least buffered run of a module with derivations answers is so
abbrev pub AnswersAreSound : Type 0
AnswersAreSound =
    (m : Module) (ds : List Deriv) → HasDerivations m ds →
    (main : CoreTree) → main_body m.globals.items ≡ Some main →
    (capacity steps : ℕ) (o : BufferedOutcome) →
    IsAnswer m main capacity steps o → IsSoundOutcome m o

-- each buffered run of the module from this body of main that comes to an end, with channels of this capacity, has this report, and as
-- many entries of each channel that one side hasn't taken
abbrev pub BufferedEndsAs : Module → CoreTree → ℕ → Report → List ℕ → Type 0
BufferedEndsAs m main capacity r unread = (es : List Occurrence) (c : Config) →
    Runs (program m) m.types.items capacity (started main) es c →
    IsLast (program m) m.types.items capacity c →
    IsReport (program m) (core c) (length es) r × AreUnread c r.channels.items unread

-- so it is with the report that the least buffered run of a module with derivations answers
abbrev pub AnswersAreEnds : Type 0
AnswersAreEnds =
    (m : Module) (ds : List Deriv) → HasDerivations m ds →
    (main : CoreTree) → main_body m.globals.items ≡ Some main →
    (capacity steps : ℕ) (r : Report) (unread : Vec ℕ Global) →
    IsAnswer m main capacity steps (Done r unread) → BufferedEndsAs m main capacity r unread.items
