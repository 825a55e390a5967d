-- Tasks with their ends as the machine keeps them, and what a turn answers.
use Rattle.std.specs.Prelude.{◌≡◌, ◌⊎◌, ◌<◌, ◌≤◌, ◌+◌, ℕ, sum_by, if◌then◌else◌, is_some, Some, Result, Ok, Err, List, [], ◌∷◌, ◌++◌, length, IsPermutation, slice_get, Bool, true, false, vec_len, vec_capacity}
use Rattle.std.specs.declared.alloc.AllocError.{AllocError}
use Rattle.fst_types.specs.Tree.{Tree}
use Rattle.fst_types.specs.declared.side.Side.TheVariants.{Left, Right}
use Rattle.fst_kinds.specs.WellFormed.{IsSession}
use Rattle.fst_terms.specs.CoreTree.{CoreTree}
use Rattle.fst_derivations.specs.Deriv.{Deriv}
use Rattle.fst_derivations.specs.Modules.{HasDerivations, surroundings}
use Rattle.fst_derivations.specs.Rules.{Surroundings}
use Rattle.fst_types.specs.declared.ends.ChannelName.{ChannelName}
use Rattle.fst_types.specs.declared.ends.EndName.{EndName}
use Rattle.fst_types.specs.declared.event.Event.{Event}
use Rattle.fst_machine.specs.declared.code.Code.{Code}
use Rattle.fst_machine.specs.declared.request.Request.{Request}
use Rattle.fst_machine.specs.declared.request.Request.TheVariants.{Put, Ended as Over}
use Rattle.fst_machine.specs.declared.request.Answer.{Answer}
use Rattle.fst_machine.specs.Machine.{request, begins}
use Rattle.fst_machine.specs.Programs.{main_body}
use Rattle.fst_machine.specs.Spots.{asked_at}
use Rattle.fst_vm.specs.Running.{code_of}
use Rattle.fst_vm.specs.Tasks.{IsFrom, IsIn, IsAtRest, GoesOn}
use Rattle.fst_runs.specs.Configs.{channel_name, main_path, new_task, same_end}
use Rattle.fst_runs.specs.Wrong.{end_of, once}
use Rattle.fst_cell.specs.Answers.{FoundHeld, FoundNothing, FoundStanding, IsOffered}
use Rattle.fst_cell.specs.End.{EndView, end_name}
use Rattle.fst_cell.specs.Rule.{fresh}
use Rattle.fst_runs.specs.declared.log.LogEntry.{LogEntry}
use Rattle.fst_safety.specs.declared.tasks.TypedTask.{TypedTask}
use Rattle.fst_safety.specs.declared.tasks.Turned.{Turned}
use Rattle.fst_safety.specs.declared.tasks.Turned.TheVariants.{Moved, Forked, Offered, Left as Off, Ended}
use Rattle.fst_safety.specs.Safety.{main_type}
use Rattle.fst_safety.specs.Threads.{Thread, FitsIn}
use Rattle.fst_safety.specs.Turns.{of_ends}
use Rattle.fst_safety.specs.Going.{GoesOnTo}

-- ---- a task that fits its code

-- the surroundings of the module of the code
abbrev pub module_of : Code → Surroundings
module_of k = surroundings k.module.value []

-- the code is that of its module, which has derivations, and main has the type a
pub record IsTypedCode (k : Code) (a : Tree) : Type 0 where
  pub from : IsFrom k.module.value k
  pub derivations : List Deriv
  pub derived : HasDerivations k.module.value derivations
  pub main : main_type k.module.value.types.items k.module.value.globals.items ≡ Some a

-- the code is that of a module that has derivations, and main has a body
pub record CanBegin (k : Code) : Type 0 where
  pub type : Tree
  pub code : IsTypedCode k type
  pub main : CoreTree
  pub body : main_body k.module.value.globals.items ≡ Some main

-- the task is the thread x, as the machine keeps it: its code stands for the state
pub record Keeps (k : Code) (t : TypedTask) (x : Thread) : Type 0 where
  pub path : t.task.path ≡ x.path
  pub is_in : IsIn k.module.value k t.task x.now.state
  pub forked : t.task.forked ≡ x.now.forked
  pub made : t.made ≡ x.now.made
  pub clock : t.clock ≡ x.now.clock
  pub log : t.log.items ≡ x.log
  pub bag : t.bag.items ≡ x.bag
  pub retired : t.retired.items ≡ x.retired

-- the task is this thread, which fits the code's module
pub record Fits (k : Code) (a : Tree) (t : TypedTask) (x : Thread) : Type 0 where
  pub code : IsTypedCode k a
  pub keeps : Keeps k t x
  pub fits : FitsIn (module_of k) a x

-- the thread of main at the beginning of its body
abbrev pub main_thread : CoreTree → Thread
main_thread e = record {
  path = main_path;
  first = new_task (begins e []) 0;
  log = [];
  now =
      new_task (begins e []) 0;
  bag = [];
  retired = [];
}

-- the task is that of main at the beginning
abbrev pub IsBegun : Code → TypedTask → Type 0
IsBegun k t = (a : Tree) (e : CoreTree) → IsTypedCode k a →
    main_body k.module.value.globals.items ≡ Some e → Fits k a t (main_thread e)

-- ---- what a turn answers

-- how often the end has tried, where it has this name
abbrev pub tries_at : EndName → EndView → ℕ
tries_at z e = if same_end z (end_name e) then e.knows.tries else 0

-- 1 where the offer of the end stands
abbrev pub offers : EndView → ℕ
offers e = once (is_some e.knows.offer)

-- how much a thread has done: an offer is one more, its notice another one, and each other event two
abbrev pub work : Thread → ℕ
work x = of_ends offers x + (length x.log + length x.log)

-- whether this tells of an event, an offer or a notice
abbrev pub is_move : Result Turned AllocError → Bool
is_move (Ok Moved) = true
is_move (Ok (Forked t)) = true
is_move (Ok Offered) = true
is_move (Ok (Off name)) = false
is_move (Ok Ended) = false
is_move (Err e) = false

-- n is more than m where something has moved, and else as much
abbrev pub Grows : Bool → ℕ → ℕ → Type 0
Grows true m n = m < n
Grows false m n = n ≡ m

-- the log has one entry more
pub record HasGained (x y : Thread) : Type 0 where
  pub entry : LogEntry
  pub is : y.log ≡ x.log ++ entry ∷ []

-- the end of this name was e and is f, and nothing else has changed
pub record HasTried (name : EndName) (e f : EndView) (x y : Thread) : Type 0 where
  pub named : end_name e ≡ name
  pub rest : List EndView
  pub was : IsPermutation x.bag (e ∷ rest)
  pub is : y ≡ record x { bag = rest ++ f ∷ [] }

-- what it asks to send stands offered
pub record HasOffered (m : Surroundings) (x y : Thread) : Type 0 where
  pub name : EndName
  pub event : Event
  pub asks : request m.families x.now.state ≡ Some (Put name event)
  pub before : EndView
  pub after : EndView
  pub tried : HasTried name before after x y
  pub offered : IsOffered before event x.now.clock after

-- the turn at the end was held, or nothing stood offered there, or its own offer still stood
abbrev pub FoundNoWay : EndView → EndView → Type 0
FoundNoWay e f = FoundHeld e f ⊎ (FoundNothing e f ⊎ FoundStanding e f)

-- it asks at the end of this name, which found no way to go on
pub record HasLeft (m : Surroundings) (name : EndName) (x y : Thread) : Type 0 where
  pub asked : Request
  pub asks : request m.families x.now.state ≡ Some asked
  pub at : end_of asked ≡ Some name
  pub before : EndView
  pub after : EndView
  pub tried : HasTried name before after x y
  pub found : FoundNoWay before after

-- what a turn of the thread x answers that has led to y and has forked the new ones
abbrev pub Answers : Code → Result Turned AllocError → Thread → Thread → List Thread → Type 0
Answers k (Ok Moved) x y new = HasGained x y × (new ≡ [])
Answers k (Ok (Forked t)) x y new = (z : Thread) × HasGained x y × (new ≡ z ∷ []) × Keeps k t z
Answers k (Ok Offered) x y new = HasOffered (module_of k) x y × (new ≡ [])
Answers k (Ok (Off name)) x y new = HasLeft (module_of k) name x y × (new ≡ [])
Answers k (Ok Ended) x y new = (request (module_of k).families x.now.state ≡ Some Over) × (y ≡ x) ×
    (new ≡ [])
Answers k (Err e) x y new = (y.log ≡ x.log) × (y.now ≡ x.now) × (new ≡ [])

-- the thread x has gone on to one that the task is now, with this answer
pub record HasTurned (k : Code) (a : Tree) (r : Result Turned AllocError) (u : TypedTask)
    (x : Thread) : Type 0 where
  pub after : Thread
  pub new : List Thread
  pub goes : GoesOnTo (module_of k) a x after new
  pub keeps : Keeps k u after
  -- more was done exactly where the answer says so
  pub done : Grows (is_move r) (work x) (work after + sum_by work new)
  -- no end has tried less often
  pub tries : (z : EndName) → of_ends (tries_at z) x ≤ of_ends (tries_at z) after + sum_by
      (of_ends (tries_at z)) new
  pub answers : Answers k r x after new

-- so it is with each thread that the task was
abbrev pub TakesTurn : Code → TypedTask → Result Turned AllocError → TypedTask → Type 0
TakesTurn k t r u = (a : Tree) (x : Thread) → Fits k a t x → HasTurned k a r u x

-- ---- the parts of a turn

-- the same but for room
pub record IsSame (t u : TypedTask) : Type 0 where
  pub task : (u.task.path ≡ t.task.path) × (u.task.forked ≡ t.task.forked) ×
      (u.task.spot ≡ t.task.spot)
  pub made : u.made ≡ t.made
  pub clock : u.clock ≡ t.clock
  pub log : u.log.items ≡ t.log.items
  pub bag : u.bag.items ≡ t.bag.items
  pub retired : u.retired.items ≡ t.retired.items

-- the task has gone on with this entry, whatever has become of its ends
pub record HasGoneOn (k : Code) (t : TypedTask) (asked : Request) (answer : Answer) (stamp : ℕ)
    (u : TypedTask) : Type 0 where
  pub task : GoesOn k t.task answer u.task
  pub made : u.made ≡ t.made
  pub clock : u.clock ≡ stamp
  pub log : u.log.items ≡ t.log.items ++ record { asked = asked; answer = answer; stamp = stamp }
      ∷ []

-- its ends are the same
abbrev pub HasSameEnds : TypedTask → TypedTask → Type 0
HasSameEnds t u = (u.bag.items ≡ t.bag.items) × (u.retired.items ≡ t.retired.items)

-- the task fits its code
abbrev pub CanTurn : Code → TypedTask → Type 0
CanTurn k t = (a : Tree) × (x : Thread) × Fits k a t x

-- the task asks for this where it runs, and no step is left before
abbrev pub AsksNow : Code → TypedTask → Request → Type 0
AsksNow k t q = IsAtRest k t.task ×
    (asked_at (code_of k.module.value.families.items k) t.task.spot ≡ Some q)

-- there is room for what an exchange leads to
pub record HasRoom (t : TypedTask) : Type 0 where
  pub ready : t.task.ready ≡ true
  pub log : vec_len t.log < vec_capacity t.log
  pub retired : vec_len t.retired < vec_capacity t.retired

-- the name of a new channel twice, and the two ends of its cell
pub record AreNew (k : Code) (t : TypedTask) (number : ℕ) (name again : ChannelName)
    (l r : EndView) : Type 0 where
  pub declared : Tree
  pub is : slice_get k.types.items number ≡ Some declared
  pub named : name ≡ channel_name t.task.path t.made
  pub same : again ≡ name
  pub left : l ≡ record { cell = l.cell; channel = name; knows = fresh Left declared }
  pub right : r ≡ record { cell = l.cell; channel = name; knows = fresh Right declared }

-- the module has a type of this number, and it is a closed session type
abbrev pub IsDeclarable : Code → ℕ → Type 0
IsDeclarable k number = (d : Tree) × (slice_get k.types.items number ≡ Some d) × IsSession [] d
