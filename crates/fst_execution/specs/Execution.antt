-- What a run of a module that has derivations comes to.
use Rattle.std.specs.Prelude.{◌≡◌, ℕ, [], List, Contains, Some}
use Rattle.fst_types.specs.Tree.{Tree}
use Rattle.fst_kinds.specs.WellFormed.{IsSession}
use Rattle.fst_lts.specs.Histories.{after_history}
use Rattle.fst_terms.specs.CoreTree.{CoreTree}
use Rattle.fst_terms.specs.declared.core_module.Module.{Module}
use Rattle.fst_derivations.specs.Deriv.{Deriv}
use Rattle.fst_derivations.specs.Modules.{HasDerivations}
use Rattle.fst_value.specs.ValueTree.{ValueTree}
use Rattle.fst_types.specs.declared.event.ChannelHistory.{ChannelHistory}
use Rattle.fst_machine.specs.Values.{Value}
use Rattle.fst_machine.specs.declared.code.Code.{Code}
use Rattle.fst_vm.specs.Tasks.{IsFrom}
use Rattle.fst_vm.specs.declared.report.Outcome.{Outcome}
use Rattle.fst_vm.specs.declared.report.Outcome.TheVariants.{Done}
use Rattle.fst_vm.specs.declared.report.Report.{Report}
use Rattle.fst_runs.specs.Configs.{main_body}
use Rattle.fst_process.specs.Reports.{IsAlike, IsAnswer}
use Rattle.fst_safety.specs.Safety.{HasMainType, IsSafe}
use Rattle.fst_safety.specs.Tasks.{CanBegin}

-- the module has derivations
pub record IsDerived (m : Module) : Type 0 where
  pub derivations : List Deriv
  pub derived : HasDerivations m derivations

-- each channel of the report has a closed well-formed session type, of which its history is a trace; and main's value, where it is
-- there, is one of main's type, in which no function and no end stands
pub record IsSound (m : Module) (r : Report) : Type 0 where
  pub sessions : (j : ChannelHistory) → Contains r.channels.items j → IsSession [] j.declared
  pub traces : (j : ChannelHistory) → Contains r.channels.items j → (t : Tree) ×
      (after_history j.declared j.entries.items ≡ Some t)
  pub result : (x : ValueTree) → r.result ≡ Some x → (v : Value) × HasMainType m v × IsAlike x v

-- the code is the module's, and its tasks can begin
pub record IsPrepared (m : Module) (k : Code) : Type 0 where
  pub is_of : k.module.value ≡ m
  pub from : IsFrom m k
  pub begins : CanBegin k

-- this is what so many steps of the module's least run come to, and its report, if there is one, is sound
pub record IsExecuted (m : Module) (steps : ℕ) (o : Outcome) : Type 0 where
  pub main : CoreTree
  pub body : main_body m.globals.items ≡ Some main
  pub answer : IsAnswer m main steps o
  pub sound : (r : Report) → o ≡ Done r → IsSound m r

-- the report that is the answer of the least run of a safe module is sound
abbrev pub AnswersAreSound : Type 0
AnswersAreSound = (m : Module) → IsSafe m →
    (main : CoreTree) → main_body m.globals.items ≡ Some main →
    (steps : ℕ) (r : Report) → IsAnswer m main steps (Done r) → IsSound m r
