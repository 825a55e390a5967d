-- What the calls of a task promise, by the states of the terms that its code stands for.
use Rattle.std.specs.Prelude.{◌≡◌, ◌<◌, ◌++◌, ℕ, Bool, true, false, suc, zero, Some, None, List, [], ◌∷◌}
use Rattle.fst_types.specs.declared.family.Family.{Family}
use Rattle.fst_terms.specs.CoreTree.{CoreTree}
use Rattle.fst_terms.specs.declared.core_module.Module.{Module}
use Rattle.fst_value.specs.ValueTree.{ValueTree}
use Rattle.fst_machine.specs.declared.code.Code.{Code}
use Rattle.fst_machine.specs.declared.request.Request.{Request}
use Rattle.fst_machine.specs.declared.request.Request.TheVariants as request
use Rattle.fst_machine.specs.declared.request.Answer.{Answer}
use Rattle.fst_machine.specs.declared.request.Answer.TheVariants.{Go, Made, Forked, Sent, Got}
use Rattle.fst_machine.specs.Values.{Value}
use Rattle.fst_machine.specs.Machine.{State, begins, pause, stuck, ended, request, answered, child}
use Rattle.fst_machine.specs.Programs.{IsCodeOf, program, main_body}
use Rattle.fst_machine.specs.Spots.{inner}
use Rattle.fst_machine.specs.Standing.{AreAlike, Stands, Means}
use Rattle.fst_vm.specs.TaskView.{TaskView}
use Rattle.fst_vm.specs.Running.{code_of}

-- the code is that of a module
abbrev pub IsFrom : Module → Code → Type 0
IsFrom m k = IsCodeOf m k.code.items k.lambdas.items k.globals.items k.types.items

-- the task is in this state: its code stands for it
abbrev pub IsIn : Module → Code → TaskView → State → Type 0
IsIn m k t s = Stands (code_of m.families.items k) t.spot (pause m.families.items s)

-- no step is left but what the task asks for
abbrev pub IsAtRest : Code → TaskView → Type 0
IsAtRest k t = (fs : List Family) → inner (code_of fs k) t.spot ≡ None

-- the task is in a state of a module that has a next request
pub record HasNext (k : Code) (t : TaskView) : Type 0 where
  pub source : Module
  pub from : IsFrom source k
  pub state : State
  pub is_in : IsIn source k t state
  pub next : (r : Request) × (request source.families.items state ≡ Some r)

-- it is the main task at the beginning
pub record IsStart (k : Code) (t : TaskView) : Type 0 where
  pub path : t.path ≡ zero ∷ []
  pub forked : t.forked ≡ zero
  pub ready : t.ready ≡ false
  pub begun : (m : Module) (e : CoreTree) → IsFrom m k → main_body m.globals.items ≡ Some e →
      IsIn m k t (begins e [])

-- the task is the same, and is in each state in which it was
pub record Stays (k : Code) (t u : TaskView) : Type 0 where
  pub path : u.path ≡ t.path
  pub forked : u.forked ≡ t.forked
  pub states : (m : Module) (s : State) → IsIn m k t s → IsIn m k u s

-- it asks for what its state asks for
abbrev pub AsksFor : Code → TaskView → Request → Type 0
AsksFor k t r = (m : Module) (s : State) → IsIn m k t s →
    (pause m.families.items s ≡ stuck → ⊥) → request m.families.items s ≡ Some r

-- the answer is one to what the task asks for, and after it there is a next request
pub record Takes (k : Code) (t : TaskView) (a : Answer) : Type 0 where
  pub rests : IsAtRest k t
  pub source : Module
  pub from : IsFrom source k
  pub state : State
  pub is_in : IsIn source k t state
  pub after : State
  pub told : answered (program source) state a ≡ Some after
  pub asks : pause source.families.items after ≡ stuck → ⊥
  pub few : a ≡ Forked → t.forked < 4294967295

-- how many tasks it has forked after an answer
abbrev pub forked_after : Answer → ℕ → ℕ
forked_after Go n = n
forked_after (Made h) n = n
forked_after Forked n = suc n
forked_after Sent n = n
forked_after (Got ev) n = n

-- it is an answer to what is sent or received
abbrev pub is_exchange : Answer → Bool
is_exchange Go = false
is_exchange (Made h) = false
is_exchange Forked = false
is_exchange Sent = true
is_exchange (Got ev) = true

-- the same task, which is ready
abbrev pub readied : TaskView → TaskView
readied t = record t { ready = true }

-- the task has gone on after an answer
pub record GoesOn (k : Code) (t : TaskView) (a : Answer) (u : TaskView) : Type 0 where
  pub path : u.path ≡ t.path
  pub forked : u.forked ≡ forked_after a t.forked
  pub ready : u.ready ≡ false
  pub states : (m : Module) (s after : State) → IsFrom m k → IsIn m k t s →
      answered (program m) s a ≡ Some after →
      (pause m.families.items after ≡ stuck → ⊥) → IsIn m k u after

-- the task asks for a fork
pub record Forks (k : Code) (t : TaskView) : Type 0 where
  pub rests : IsAtRest k t
  pub source : Module
  pub from : IsFrom source k
  pub state : State
  pub is_in : IsIn source k t state
  pub asks : request source.families.items state ≡ Some request.Fork
  pub few : t.forked < 4294967295

-- the task u is the one that is forked, whose variables have the values that its state has
pub record IsChild (k : Code) (t u : TaskView) : Type 0 where
  pub path : u.path ≡ t.path ++ suc t.forked ∷ []
  pub forked : u.forked ≡ zero
  pub ready : u.ready ≡ false
  pub states : (m : Module) (s b : State) → IsFrom m k → IsIn m k t s →
      child (pause m.families.items s) ≡ Some b → IsIn m k u b
  pub alike : (m : Module) (s b : State) → IsFrom m k → IsIn m k t s →
      child (pause m.families.items s) ≡ Some b →
      AreAlike (code_of m.families.items k) u.spot.slots b.environment

-- the task has ended
pub record HasEnded (t : TaskView) : Type 0 where
  pub code : Code
  pub rests : IsAtRest code t
  pub source : Module
  pub state : State
  pub is_in : IsIn source code t state
  pub value : Value
  pub ends : pause source.families.items state ≡ ended value

-- the value is that of the task
abbrev pub IsResult : TaskView → ValueTree → Type 0
IsResult t x =
    (m : Module) (k : Code) (s : State) (v : Value) → IsAtRest k t → IsIn m k t s →
    pause m.families.items s ≡ ended v → Means (code_of m.families.items k) x v
