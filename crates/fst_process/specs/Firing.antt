-- What it takes for an event to happen, and what is kept then.
use Rattle.std.specs.Prelude.{◌≡◌, ℕ, ◌<◌, true, false, suc, zero, length, Some}
use Rattle.fst_terms.specs.CoreTree.{CoreTree}
use Rattle.fst_terms.specs.declared.core_module.Module.{Module}
use Rattle.fst_machine.specs.declared.code.Code.{Code}
use Rattle.fst_machine.specs.declared.request.Answer.{Answer}
use Rattle.fst_vm.specs.TaskView.{TaskView}
use Rattle.fst_vm.specs.Tasks.{IsFrom, HasNext, Takes, GoesOn, Stays, AsksFor, IsAtRest}
use Rattle.fst_runs.specs.declared.event.CoreEvent.{CoreEvent}
use Rattle.fst_runs.specs.Configs.{Path, Config, program, main_body, started}
use Rattle.fst_runs.specs.Events.{Write, Does, written}
use Rattle.fst_runs.specs.Names.{HasMakers, HasParents}
use Rattle.fst_runs.specs.Wrong.{IsRight}
use Rattle.fst_vm.specs.Slot.{Slot, has_ended}
use Rattle.fst_vm.specs.Going.{MovesOn, StepsOn}
use Rattle.fst_process.specs.Kept.{Kept, without, settled_at, settled}
use Rattle.fst_process.specs.Reflects.{Reflects}

-- what is kept is a configuration in which the event is possible, and nothing has gone wrong before it or after it
pub record IsPossible (k : Code) (d : Kept) (e : CoreEvent) : Type 0 where
  pub source : Module
  pub events : ℕ
  pub before : Config
  pub write : Write
  pub reflects : Reflects source k events d before
  pub does : Does (program source) source.types.items before e write
  pub right_before : IsRight (program source) before
  pub right_after : IsRight (program source) (written before write)
  pub makers : HasMakers before
  pub parents : HasParents before
  pub few : events < 4294967295

-- what is kept after the event is the configuration after it
abbrev pub Happens : Code → Kept → CoreEvent → Kept → Type 0
Happens k d e f =
    (m : Module) (n : ℕ) (c : Config) (w : Write) → Reflects m k n d c →
    Does (program m) m.types.items c e w → IsRight (program m) (written c w) →
    HasMakers c → HasParents c → Reflects m k (suc n) f (written c w)

-- the task has come to what it asks for, and is put in with that and this clock
pub record Settles (k : Code) (t : TaskView) (n : ℕ) (d e : Kept) : Type 0 where
  pub slot : Slot
  pub stays : Stays k t slot.task
  pub asked : AsksFor k t slot.request
  pub rests : IsAtRest k slot.task
  pub clock : slot.clock ≡ n
  pub after : e ≡ settled (length k.types.items) slot d

-- the task can move, takes the answer and asks for something after it
pub record CanGoOn (k : Code) (d : Kept) (p : Path) (a : Answer) : Type 0 where
  pub slot : Slot
  pub there : d.tasks p ≡ Some slot
  pub path : slot.task.path ≡ p
  pub moves : d.ready p ≡ true
  pub goes : has_ended slot.request ≡ false
  pub takes : Takes k slot.task a
  pub next : (u : TaskView) → GoesOn k slot.task a u → HasNext k u
  pub few : slot.clock < 4294967295

-- the task with this path has gone on so, and what it asks for then is noted
pub record HasGoneOn (k : Code) (p : Path) (a : Answer) (n : ℕ) (d e : Kept) : Type 0 where
  pub slot : Slot
  pub there : d.tasks p ≡ Some slot
  pub now : Slot
  pub moves_on : MovesOn k a n slot now
  pub after : e ≡ settled_at (length k.types.items) p now (without p d)

-- the task with this path has stepped so many times, as it asked to, and what it asks for then is noted
pub record HasStepped (k : Code) (p : Path) (i : ℕ) (d e : Kept) : Type 0 where
  pub slot : Slot
  pub there : d.tasks p ≡ Some slot
  pub now : Slot
  pub steps : StepsOn k i slot now
  pub after : e ≡ settled_at (length k.types.items) p now (without p d)

-- the code is that of a module whose first configuration is right
pub record CanStart (k : Code) : Type 0 where
  pub source : Module
  pub main : CoreTree
  pub from : IsFrom source k
  pub body : main_body source.globals.items ≡ Some main
  pub right : IsRight (program source) (started main)

-- what is kept is the first configuration of the module whose code this is, where that is right
abbrev pub IsBegun : Code → Kept → Type 0
IsBegun k d = (m : Module) (e : CoreTree) → IsFrom m k → main_body m.globals.items ≡ Some e →
    IsRight (program m) (started e) → Reflects m k zero d (started e)
