-- What a run answers.
use Rattle.std.specs.Prelude.{◌≡◌, ◌↔◌, ◌⊎◌, ◌<◌, ◌≤◌, ◌+◌, ℕ, suc, Option, Some, None, List, ⊤, length, Contains}
use Rattle.fst_terms.specs.CoreTree.{CoreTree}
use Rattle.fst_terms.specs.declared.core_module.Module.{Module}
use Rattle.fst_value.specs.ValueTree as tree
use Rattle.fst_value.specs.ValueTree.{ValueTree, ValueTrees}
use Rattle.fst_types.specs.declared.ends.ChannelName.{ChannelName}
use Rattle.fst_types.specs.declared.ends.EndName.{EndName}
use Rattle.fst_types.specs.declared.event.ChannelHistory.{ChannelHistory}
use Rattle.fst_machine.specs.Values as value
use Rattle.fst_machine.specs.Values.{Value, Values, Environment}
use Rattle.fst_machine.specs.Machine.{Program, pause, ended}
use Rattle.fst_runs.specs.declared.event.CoreEvent.{CoreEvent}
use Rattle.fst_runs.specs.Configs.{Path, Config, Task, Channel, main_path, program, started}
use Rattle.fst_runs.specs.Events.{IsLast}
use Rattle.fst_runs.specs.Least.{IsBefore, RunsLeast, WaitsAt}
use Rattle.fst_runs.specs.Order.{AreRising}
use Rattle.fst_machine.specs.declared.code.Code.{Code}
use Rattle.fst_process.specs.Kept.{Kept}
use Rattle.fst_process.specs.Reflects.{Reflects}
use Rattle.fst_vm.specs.declared.report.Report.{Report}
use Rattle.fst_vm.specs.declared.report.Outcome.{Outcome}
use Rattle.fst_vm.specs.declared.report.Outcome.TheVariants.{Done, OutOfSteps}

abbrev mutual
  -- a value as it is kept is one of terms, but for what functions hold
  pub IsAlike : ValueTree → Value → Type 0
  IsAlike (tree.int n) v = v ≡ value.int n
  IsAlike (tree.bool b) v = v ≡ value.bool b
  IsAlike (tree.char n) v = v ≡ value.char n
  IsAlike tree.unit v = v ≡ value.unit
  IsAlike (tree.pair x y) v = (a : Value) × (b : Value) ×
      (v ≡ value.pair a b) × IsAlike x a × IsAlike y b
  IsAlike (tree.make n o xs) v = (vs : Values) × (v ≡ value.made n o vs) × AreAlike xs vs
  IsAlike (tree.function l xs) v = (e : CoreTree) × (env : Environment) × (v ≡ value.function e env)
  IsAlike (tree.end x) v = v ≡ value.end x

  -- so it is with each of these
  pub AreAlike : ValueTrees → Values → Type 0
  AreAlike tree.none value.no_values = ⊤
  AreAlike tree.none (value.value v vs) = ⊥
  AreAlike (tree.value x xs) value.no_values = ⊥
  AreAlike (tree.value x xs) (value.value v vs) = IsAlike x v × AreAlike xs vs

-- main has ended with this value, or it hasn't ended
abbrev pub IsMainResult : Program → Config → Option ValueTree → Type 0
IsMainResult m c None = (t : Task) (v : Value) → c.tasks main_path ≡ Some t →
    pause m.families t.state ≡ ended v → ⊥
IsMainResult m c (Some x) = (t : Task) × (v : Value) × (c.tasks main_path ≡ Some t) ×
    (pause m.families t.state ≡ ended v) × IsAlike x v

-- one channel comes before another: by its maker, and then by its number
abbrev pub ComesBefore : ChannelName → ChannelName → Type 0
ComesBefore g h = IsBefore g.maker h.maker ⊎ ((g.maker ≡ h.maker) × (g.count < h.count))

-- the report of a configuration after n events: the value of main, each task that waits, in path order, and each channel, in
-- order of makers and numbers
pub record IsReport (m : Program) (c : Config) (n : ℕ) (r : Report) : Type 0 where
  pub result : IsMainResult m c r.result
  pub waiting : (p : Path) (x : EndName) →
      Contains r.waiting.items (record { task = p; end = x }) ↔ WaitsAt m c p x
  pub waiting_order : AreRising (λ v w. IsBefore v.task w.task) r.waiting.items
  pub channels : (h : ChannelName) (k : Channel) →
      (c.channels h ≡ Some k) ↔ ((j : ChannelHistory) × Contains r.channels.items j × (j.name ≡ h) ×
      (j.declared ≡ k.declared) × (j.entries.items ≡ k.history))
  pub channels_order : AreRising (λ j k. ComesBefore j.name k.name) r.channels.items
  pub events : r.events ≡ n

-- what is kept is some configuration after not too many events
pub record IsConfig (d : Kept) : Type 0 where
  pub source : Module
  pub code : Code
  pub events : ℕ
  pub config : Config
  pub reflects : Reflects source code events d config
  pub few : events < 4294967295

-- the report is that of each configuration that is kept
abbrev pub IsReported : Kept → ℕ → Report → Type 0
IsReported d n r = (m : Module) (k : Code) (l : ℕ) (c : Config) → Reflects m k l d c →
    IsReport (program m) c n r

-- what the least run of the module comes to within so many events
abbrev pub IsAnswer : Module → CoreTree → ℕ → Outcome → Type 0
IsAnswer m e steps (Done r) =
    (es : List CoreEvent) × (c : Config) × RunsLeast (program m) m.types.items (started e) es c ×
    IsLast (program m) m.types.items c ×
    (length es ≤ steps) × IsReport (program m) c (length es) r
IsAnswer m e steps OutOfSteps = (es : List CoreEvent) ×
    (c : Config) × RunsLeast (program m) m.types.items (started e) es c × (length es ≡ suc steps)

-- what the least run from a configuration comes to, where so many events before it count among the steps
abbrev pub IsAnswerFrom : Module → Config → ℕ → ℕ → Outcome → Type 0
IsAnswerFrom m b before steps (Done r) =
    (es : List CoreEvent) × (c : Config) × RunsLeast (program m) m.types.items b es c ×
    IsLast (program m) m.types.items c ×
    (before + length es ≤ steps) × IsReport (program m) c (before + length es) r
IsAnswerFrom m b before steps OutOfSteps =
    (es : List CoreEvent) × (c : Config) × RunsLeast (program m) m.types.items b es c ×
    (steps < before + length es)
