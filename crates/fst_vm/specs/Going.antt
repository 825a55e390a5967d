-- How the task of a slot goes on after answers.
use Rattle.std.specs.Prelude.{◌≡◌, ℕ, ◌<◌, suc, zero, max}
use Rattle.fst_machine.specs.declared.code.Code.{Code}
use Rattle.fst_machine.specs.declared.request.Request.TheVariants.{Step}
use Rattle.fst_machine.specs.declared.request.Answer.{Answer}
use Rattle.fst_machine.specs.declared.request.Answer.TheVariants.{Go}
use Rattle.fst_vm.specs.TaskView.{TaskView}
use Rattle.fst_vm.specs.Tasks.{HasNext, Takes, GoesOn, Stays, AsksFor, IsAtRest}
use Rattle.fst_vm.specs.Slot.{Slot}

-- the task of a slot has gone on after the answer to what it asks for then; its clock counts one more, and is at least n
pub record MovesOn (k : Code) (a : Answer) (n : ℕ) (s t : Slot) : Type 0 where
  pub task : TaskView
  pub goes_on : GoesOn k s.task a task
  pub stays : Stays k task t.task
  pub asked : AsksFor k task t.request
  pub rests : IsAtRest k t.task
  pub clock : t.clock ≡ max (suc s.clock) n

-- the task of a slot can step alone
pub record CanStep (k : Code) (s : Slot) : Type 0 where
  pub takes : Takes k s.task Go
  pub next : (u : TaskView) → GoesOn k s.task Go u → HasNext k u
  pub few : s.clock < 4294967295

-- it has done so so many times, as it asked to
abbrev pub StepsOn : Code → ℕ → Slot → Slot → Type 0
StepsOn k zero s t = t ≡ s
StepsOn k (suc i) s t = (r : Slot) × StepsOn k i s r × (r.request ≡ Step) × MovesOn k Go zero r t

-- it can do so as often as it asks to, up to so many times
abbrev pub CanStepOn : Code → ℕ → Slot → Type 0
CanStepOn k most s = (i : ℕ) (t : Slot) → i < most → StepsOn k i s t → t.request ≡ Step →
    ∥ CanStep k t ∥₁
