-- Which event is the next one.
use Rattle.std.specs.Prelude.{◌≡◌, ◌⊎◌, ◌↔◌, ℕ, Bool, true, false, Option, Some, None, option_map, option_and_then}
use Rattle.fst_terms.specs.declared.core_module.Module.{Module}
use Rattle.fst_machine.specs.declared.code.Code.{Code}
use Rattle.fst_machine.specs.declared.request.Request.{Request}
use Rattle.fst_machine.specs.declared.request.Request.TheVariants as request
use Rattle.fst_runs.specs.declared.event.CoreEvent.{CoreEvent}
use Rattle.fst_runs.specs.declared.event.CoreEvent.TheVariants.{Local, New, Fork, Meet}
use Rattle.fst_runs.specs.Configs.{Path, Config, program}
use Rattle.fst_runs.specs.Least.{IsBefore, CanMove}
use Rattle.fst_runs.specs.Wrong.{IsRight}
use Rattle.fst_vm.specs.Slot.{Slot}
use Rattle.fst_process.specs.Kept.{Kept, partner}
use Rattle.fst_process.specs.Reflects.{Reflects}

-- the event of a task that asks for this, if it can move
abbrev pub event_with : Kept → Path → Request → Option CoreEvent
event_with d p request.Step = Some (Local p)
event_with d p (request.New n) = Some (New p)
event_with d p request.Fork = Some (Fork p)
event_with d p (request.Put x ev) = option_map (λ q. Meet p q x.channel) (partner d x)
event_with d p (request.Get x) = option_map (λ q. Meet q p x.channel) (partner d x)
event_with d p request.Ended = None

-- the event of the task with this path
abbrev pub event_of : Kept → Path → Option CoreEvent
event_of d p = option_and_then (λ (s : Slot). event_with d p s.request) (d.tasks p)

-- the first task that can move has this path
pub record IsFirst (d : Kept) (p : Path) : Type 0 where
  pub moves : d.ready p ≡ true
  pub none_before : (q : Path) → IsBefore q p → d.ready q ≡ false

-- the event is that of the first task that can move, and there is none where no task can
abbrev pub IsNext : Kept → Option CoreEvent → Type 0
IsNext d o = (((p : Path) → d.ready p ≡ false) × (o ≡ None)) ⊎
    ((p : Path) × IsFirst d p × (o ≡ event_of d p))

-- the answer says whether the task can move, in each configuration that is kept and is right
abbrev pub TellsMoving : Kept → Path → Bool → Type 0
TellsMoving d p b =
    (m : Module) (k : Code) (n : ℕ) (c : Config) → Reflects m k n d c → IsRight (program m) c →
    (b ≡ true) ↔ CanMove (program m) m.types.items c p
