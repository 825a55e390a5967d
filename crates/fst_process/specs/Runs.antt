-- When no run goes wrong, and what a run answers.
use Rattle.std.specs.Prelude.{◌≡◌, ◌+◌, ℕ, List, Some, length}
use Rattle.fst_terms.specs.CoreTree.{CoreTree}
use Rattle.fst_terms.specs.declared.core_module.Module.{Module}
use Rattle.fst_machine.specs.declared.code.Code.{Code}
use Rattle.fst_vm.specs.Tasks.{IsFrom}
use Rattle.fst_runs.specs.declared.event.CoreEvent.{CoreEvent}
use Rattle.fst_runs.specs.Configs.{Config, program, main_body, started}
use Rattle.fst_runs.specs.Events.{Runs}
use Rattle.fst_runs.specs.Least.{RunsLeast}
use Rattle.fst_runs.specs.Names.{HasMakers, HasParents}
use Rattle.fst_runs.specs.Wrong.{IsRight}
use Rattle.fst_process.specs.Kept.{Kept}
use Rattle.fst_process.specs.Reflects.{Reflects}
use Rattle.fst_vm.specs.declared.report.Outcome.{Outcome}
use Rattle.fst_process.specs.Reports.{IsAnswer, IsAnswerFrom}

-- no run of the module from this configuration goes wrong
abbrev pub RunsRightFrom : Module → Config → Type 0
RunsRightFrom m b = (es : List CoreEvent) (c : Config) → Runs (program m) m.types.items b es c →
    IsRight (program m) c

-- no run of the module from main's body goes wrong
abbrev pub RunsRight : Module → CoreTree → Type 0
RunsRight m e = RunsRightFrom m (started e)

-- the code is that of a module of which no run goes wrong
pub record CanRun (k : Code) : Type 0 where
  pub source : Module
  pub main : CoreTree
  pub from : IsFrom source k
  pub body : main_body source.globals.items ≡ Some main
  pub right : RunsRight source main

-- what so many steps of the least run come to, of each module whose code this is and of which no run goes wrong
abbrev pub IsOutcome : Code → ℕ → Outcome → Type 0
IsOutcome k steps o = (m : Module) (e : CoreTree) → IsFrom m k →
    main_body m.globals.items ≡ Some e → RunsRight m e → IsAnswer m e steps o

-- what is kept is a configuration of the module whose code this is, after n events, from which no run goes wrong
pub record CanRunFrom (k : Code) (n : ℕ) (d : Kept) : Type 0 where
  pub source : Module
  pub config : Config
  pub reflects : Reflects source k n d config
  pub makers : HasMakers config
  pub parents : HasParents config
  pub right : RunsRightFrom source config

-- what the least run comes to from each such configuration, where the n events count among so many steps
abbrev pub IsOutcomeFrom : Code → ℕ → ℕ → Kept → Outcome → Type 0
IsOutcomeFrom k n steps d o =
    (m : Module) (c : Config) → Reflects m k n d c → HasMakers c → HasParents c →
    RunsRightFrom m c → IsAnswerFrom m c n steps o

-- what is kept after n events is what the least run from the configuration has come to, so many events before it included
pub record IsReached (m : Module) (k : Code) (b : Config) (before n : ℕ) (d : Kept) : Type 0 where
  pub events : List CoreEvent
  pub config : Config
  pub runs : RunsLeast (program m) m.types.items b events config
  pub many : before + length events ≡ n
  pub reflects : Reflects m k n d config
  pub fresh : HasMakers config × HasParents config

-- so it is with each configuration that was kept at first and from which no run goes wrong
abbrev pub RunsTo : Code → ℕ → Kept → ℕ → Kept → Type 0
RunsTo k before o n d =
    (m : Module) (b : Config) → Reflects m k before o b → HasMakers b → HasParents b →
    RunsRightFrom m b → IsReached m k b before n d
