-- What is kept of a task.
use Rattle.std.specs.Prelude.{ℕ, Bool, true, false, Option, Some, None, not, nat_lt}
use Rattle.fst_machine.specs.declared.request.Request.{Request}
use Rattle.fst_machine.specs.declared.request.Request.TheVariants.{Step, New, Fork, Put, Get, Ended}
use Rattle.fst_vm.specs.TaskView.{TaskView}

-- what is kept of a task: where its code runs, what it asks for, and its clock
pub record Slot : Type 0 where
  pub task : TaskView
  pub request : Request
  pub clock : ℕ

-- a task that asks for this has ended
abbrev pub has_ended : Request → Bool
has_ended Step = false
has_ended (New n) = false
has_ended Fork = false
has_ended (Put x ev) = false
has_ended (Get x) = false
has_ended Ended = true

-- a task that asks for this is to step
abbrev pub is_step : Request → Bool
is_step Step = true
is_step (New n) = false
is_step Fork = false
is_step (Put x ev) = false
is_step (Get x) = false
is_step Ended = false

-- a task that asks for this can move alone, where the module has so many types
abbrev pub moves_alone : ℕ → Request → Bool
moves_alone types Step = true
moves_alone types (New n) = nat_lt n types
moves_alone types Fork = true
moves_alone types (Put x ev) = false
moves_alone types (Get x) = false
moves_alone types Ended = false

-- there is a task, and it has not ended
abbrev pub is_live : Option Slot → Bool
is_live None = false
is_live (Some s) = not (has_ended s.request)
