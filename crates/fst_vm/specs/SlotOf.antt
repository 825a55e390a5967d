-- What is kept of all tasks, as the tables of the program keep it.
use Rattle.std.specs.Prelude.{◌≡◌, ◌++◌, Option, Some, None, option_map, List, [], ◌∷◌, if◌then◌else◌}
use Rattle.std.specs.Option.{option_or}
use Rattle.std.specs.Str.{bytes_eq}
use Rattle.std.specs.Map.{lookup}
use Rattle.fst_value.specs.ValueTree.{ValueTree}
use Rattle.fst_machine.specs.declared.request.Request.{Request}
use Rattle.fst_machine.specs.declared.request.Request.TheVariants.{Step, New, Fork, Put, Get, Ended}
use Rattle.fst_paths.specs.Paths.{Path, Key, at_path}
use Rattle.fst_vm.specs.declared.kept.Slot as rust_slot
use Rattle.fst_vm.specs.declared.kept.EndedTask.{EndedTask}
use Rattle.fst_vm.specs.declared.tasks.Tasks.{Tasks}
use Rattle.fst_vm.specs.declared.report.Waiting.{Waiting}
use Rattle.fst_vm.specs.Tasks.{IsResult}
use Rattle.fst_vm.specs.Slot.{Slot}

-- what a slot keeps
abbrev pub slot_of : rust_slot.Slot → Slot
slot_of s = record { task = s.task; request = s.request; clock = s.clock }

-- what is kept of a task that has ended: it asks for nothing
abbrev pub slot_of_ended : EndedTask → Slot
slot_of_ended t = record { task = t.task; request = Ended; clock = t.clock }

-- tasks by their paths
abbrev pub Slots : Type 0
Slots = List (Key × rust_slot.Slot)

-- the task with this path
abbrev pub slot_in : Slots → Path → Option Slot
slot_in ss p = option_map slot_of (lookup (at_path p) ss)

-- the last with this path of the tasks that have ended
abbrev pub ended_in : List EndedTask → Path → Option Slot
ended_in [] p = None
ended_in (t ∷ ts) p = option_or (ended_in ts p)
    (if bytes_eq t.task.path p then Some (slot_of_ended t) else None)

-- the task with this path, among those that have not ended or else among those that have
abbrev pub tasks_in : Slots → List EndedTask → Path → Option Slot
tasks_in ss ts p = option_or (slot_in ss p) (ended_in ts p)

-- all tasks, by their paths
abbrev pub tasks_by_path : Tasks → Path → Option Slot
tasks_by_path t = tasks_in t.live.entries t.ended.items

-- the task with this path waits, if it asks at an end
abbrev pub one_waiting : Path → Request → List Waiting
one_waiting p Step = []
one_waiting p (New n) = []
one_waiting p Fork = []
one_waiting p (Put x ev) = record { task = p; end = x } ∷ []
one_waiting p (Get x) = record { task = p; end = x } ∷ []
one_waiting p Ended = []

-- the tasks that wait
abbrev pub waiting_in : Slots → List Waiting
waiting_in [] = []
waiting_in (e ∷ es) = one_waiting e.0.items e.1.request ++ waiting_in es

-- the value is that of the task, if it is there and has ended
abbrev pub IsEnd : Option Slot → Option ValueTree → Type 0
IsEnd o None = (s : Slot) → o ≡ Some s → s.request ≡ Ended → ⊥
IsEnd o (Some x) = (s : Slot) × (o ≡ Some s) × (s.request ≡ Ended) × IsResult s.task x
