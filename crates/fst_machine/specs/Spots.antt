-- How code runs: the steps between two requests, what is asked for, and how it goes on after an answer.
use Rattle.std.specs.Prelude.{ℕ, zero, suc, Bool, true, false, not, unwrap_or, Option, Some, None, option_map, option_and_then, List, [], ◌∷◌, length, drop, slice_get}
use Rattle.fst_types.specs.declared.side.Side.TheVariants.{Left, Right}
use Rattle.fst_value.specs.ValueTree.{ValueTree, int, bool, char, unit, pair, make, function, end, ValueTrees, none, value}
pub use Rattle.fst_value.specs.Stacks.{collected, stacked}
use Rattle.fst_types.specs.declared.ends.ChannelName.{ChannelName}
use Rattle.fst_types.specs.declared.event.Event.TheVariants.{Label, Closed}
use Rattle.fst_machine.specs.declared.request.Request.{Request}
use Rattle.fst_machine.specs.declared.request.Request.TheVariants.{Step, New, Fork, Put, Get, Ended}
use Rattle.fst_machine.specs.declared.request.Answer.{Answer}
use Rattle.fst_machine.specs.declared.request.Answer.TheVariants.{Go, Made, Forked, Sent, Got}
use Rattle.fst_machine.specs.declared.code.Instr.{Instr}
use Rattle.fst_machine.specs.declared.code.Instr.TheVariants as instr
use Rattle.fst_machine.specs.declared.entry.LambdaEntry.{LambdaEntry}
use Rattle.fst_machine.specs.Values as plain
use Rattle.fst_machine.specs.Values.{Value, operated, sent, received, awaited}
use Rattle.fst_machine.specs.Code.{Compiled, place_of}

-- what variables stand for, the innermost first
abbrev pub Slots : Type 0
Slots = List (Option ValueTree)

-- where a function was applied or a global used: the place where it goes on, and its variables
pub record Call : Type 0 where
  pub place : ℕ
  pub slots : Slots

-- where code runs: a place, the variables there, the values on the stack, the last first, and the calls around it
pub record Spot : Type 0 where
  pub place : ℕ
  pub slots : Slots
  pub operands : List ValueTree
  pub calls : List Call

-- the beginning of a body
abbrev pub begins_at : ℕ → Slots → Spot
begins_at place slots = record { place = place; slots = slots; operands = []; calls = [] }

-- at another place with these values
abbrev pub moved_to : ℕ → List ValueTree → Spot → Spot
moved_to j vs s = record s { place = j; operands = vs }

-- the value of a variable
abbrev pub slot_at : Slots → ℕ → Option ValueTree
slot_at [] k = None
slot_at (o ∷ os) zero = o
slot_at (o ∷ os) (suc k) = slot_at os k

-- without the value of a variable
abbrev pub emptied : ℕ → Slots → Slots
emptied k [] = []
emptied zero (o ∷ os) = None ∷ os
emptied (suc k) (o ∷ os) = o ∷ emptied k os

-- with a value for one more variable
abbrev pub filled : ℕ → ValueTree → Slots → Slots
filled zero v [] = Some v ∷ []
filled zero v (o ∷ os) = Some v ∷ os
filled (suc k) v [] = None ∷ filled k v []
filled (suc k) v (o ∷ os) = o ∷ filled k v os

-- values for just these variables
abbrev pub spread : List ℕ → ValueTrees → Slots
spread [] vs = []
spread (k ∷ ks) none = []
spread (k ∷ ks) (value v vs) = filled k v (spread ks vs)

-- a value of a base type as it is; of any other value one that no sign takes and that isn't sent
abbrev pub scalar : ValueTree → Value
scalar (int n) = plain.int n
scalar (bool b) = plain.bool b
scalar (char c) = plain.char c
scalar unit = plain.unit
scalar (pair v w) = plain.pair plain.unit plain.unit
scalar (make n o vs) = plain.pair plain.unit plain.unit
scalar (function l vs) = plain.pair plain.unit plain.unit
scalar (end x) = plain.pair plain.unit plain.unit

-- a value of a base type
abbrev pub of_scalar : Value → ValueTree
of_scalar (plain.int n) = int n
of_scalar (plain.bool b) = bool b
of_scalar (plain.char c) = char c
of_scalar plain.unit = unit
of_scalar (plain.pair v w) = unit
of_scalar (plain.made n o vs) = unit
of_scalar (plain.function e env) = unit
of_scalar (plain.end x) = unit

-- the last value behind which the code goes on at j
abbrev pub with_value : ℕ → Option ValueTree → List ValueTree → Spot → Option Spot
with_value j None ops s = None
with_value j (Some v) ops s = Some (moved_to j (v ∷ ops) s)

-- the last n values made one
abbrev pub joined : ℕ → Option (ValueTrees × List ValueTree) →
    (ValueTrees → ValueTree) → Spot → Option Spot
joined j None f s = None
joined j (Some p) f s = Some (moved_to j (f p.0 ∷ p.1) s)

-- how many values a function captures
abbrev pub captured_count : Option LambdaEntry → ℕ
captured_count None = zero
captured_count (Some e) = length e.captured.items

-- the constructor's arm
abbrev pub in_arm : Option ℕ → ValueTrees → List ValueTree → Spot → Option Spot
in_arm None vs ops s = None
in_arm (Some place) vs ops s = Some (moved_to place (stacked vs ops) s)

-- one step with an instruction that is followed by place j, if it asks for nothing
abbrev pub ran : Compiled → Instr → ℕ → Spot → List ValueTree → Option Spot
ran c (instr.Int n) j s ops = Some (moved_to j (int n ∷ ops) s)
ran c (instr.Bool b) j s ops = Some (moved_to j (bool b ∷ ops) s)
ran c (instr.Char n) j s ops = Some (moved_to j (char n ∷ ops) s)
ran c instr.Unit j s ops = Some (moved_to j (unit ∷ ops) s)
ran c (instr.Load k) j s ops = with_value j (slot_at s.slots k) ops s
ran c (instr.Take k) j s ops = with_value j (slot_at s.slots k) ops
    (record s { slots = emptied k s.slots })
ran c instr.Bind j s (v ∷ ops) = Some
    (record s { place = j; slots = Some v ∷ s.slots; operands = ops })
ran c (instr.Unbind n) j s ops = Some (record s { place = j; slots = drop n s.slots })
ran c instr.Pair j s (w ∷ v ∷ ops) = Some (moved_to j (pair v w ∷ ops) s)
ran c instr.Split j s (pair v w ∷ ops) = Some (moved_to j (v ∷ w ∷ ops) s)
ran c (instr.Make n o k) j s ops = joined j (collected k ops none) (make n o) s
ran c (instr.Function l) j s ops = joined j
    (collected (captured_count (slice_get c.lambdas l)) ops none) (function l) s
ran c (instr.Operate o) j s (w ∷ v ∷ ops) =
    with_value j (option_map of_scalar (operated o (scalar v) (scalar w))) ops s
ran c instr.Not j s (bool b ∷ ops) = Some (moved_to j (bool (not b) ∷ ops) s)
ran c (instr.Branch place) j s (bool true ∷ ops) = Some (moved_to j ops s)
ran c (instr.Branch place) j s (bool false ∷ ops) = Some (moved_to place ops s)
ran c (instr.Jump place) j s ops = Some (moved_to place ops s)
ran c (instr.Case places) j s (make n o vs ∷ ops) = in_arm (slice_get places.items o) vs ops s
ran c instr.Drop j s (v ∷ ops) = Some (moved_to j ops s)
ran c instr.Return j s ops = returned s.calls ops
  where
    returned : List Call → List ValueTree → Option Spot
    returned [] ops = None
    returned (k ∷ ks) ops = Some (record
        { place = k.place; slots = k.slots; operands = ops; calls = ks })
ran c i j s ops = None

-- the instruction at a place, and the place behind it
abbrev pub on_instr : {X : Type 0} → Compiled → ℕ → (Instr → ℕ → Option X) → Option X
on_instr c zero f = None
on_instr c (suc j) f = option_and_then (λ i. f i j) (slice_get c.code j)

-- one step, if nothing is asked for
abbrev pub inner : Compiled → Spot → Option Spot
inner c s = on_instr c s.place (λ i j. ran c i j s s.operands)

-- what an instruction asks for with these values
abbrev pub asks : Instr → List Call → List ValueTree → Option Request
asks instr.Call calls (w ∷ function l vs ∷ ops) = Some Step
asks (instr.Global g) calls ops = Some Step
asks (instr.New t) calls ops = Some (New t)
asks (instr.Fork l) calls ops = Some Fork
asks instr.Send calls (end x ∷ v ∷ ops) = option_map (Put x) (sent (scalar v))
asks instr.Receive calls (end x ∷ ops) = Some (Get x)
asks instr.Close calls (end x ∷ ops) = Some (Put x Closed)
asks instr.Wait calls (end x ∷ ops) = Some (Get x)
asks (instr.Select l) calls (end x ∷ ops) = Some (Put x (Label l))
asks (instr.Match places) calls (end x ∷ ops) = Some (Get x)
asks instr.Return [] (v ∷ ops) = Some Ended
asks i calls ops = None

-- what is asked for at a spot
abbrev pub asked_at : Compiled → Spot → Option Request
asked_at c s = on_instr c s.place (λ i j. asks i s.calls s.operands)

-- whether an instruction that is followed by place j returns, or only leaves variables or jumps to where f holds
abbrev pub returns_by : (ℕ → Bool) → Instr → ℕ → Bool
returns_by f instr.Return j = true
returns_by f (instr.Unbind n) j = f j
returns_by f (instr.Jump place) j = f place
returns_by f i j = false

-- whether code at place j does nothing but leave variables, in less than n steps, before it returns
abbrev pub leads_back : ℕ → Compiled → ℕ → Bool
leads_back zero c j = false
leads_back (suc n) c j = unwrap_or
    (on_instr c j (λ i k. Some (returns_by (leads_back n c) i k))) false

-- the calls around a body with the one to which it goes back, unless that only leads back itself
abbrev pub around : Bool → Call → List Call → List Call
around true k ks = ks
around false k ks = k ∷ ks

-- in the code of a function or a global
abbrev pub called : Compiled → Option ℕ → Slots → ℕ → List ValueTree → Spot → Option Spot
called c None slots j ops s = None
called c (Some place) slots j ops s =
    Some (record {
      place = place;
      slots = slots;
      operands = ops;
      calls = around (leads_back j c j) (record { place = j; slots = s.slots }) s.calls;
    })

-- the place where a function or a task starts
abbrev pub start_of : Option LambdaEntry → Option ℕ
start_of o = option_map (λ e. e.start) o

-- the variables that it captures
abbrev pub captured_by : Option LambdaEntry → List ℕ
captured_by None = []
captured_by (Some e) = e.captured.items

-- the two ends of a channel as a pair
abbrev pub ends_of : ChannelName → ValueTree
ends_of c = pair (end (record { channel = c; side = Left }))
    (end (record { channel = c; side = Right }))

-- without the values that a task captures, and with what the forking task goes on with
abbrev pub without_captured : ℕ → Option (ValueTrees × List ValueTree) → Spot → Option Spot
without_captured j None s = None
without_captured j (Some p) s = Some (moved_to j (unit ∷ p.1) s)

-- after an answer, at an instruction that is followed by place j
abbrev pub told : Compiled → Instr → ℕ → Spot → List ValueTree → Answer → Option Spot
told c instr.Call j s (w ∷ function l vs ∷ ops) Go =
    called c (start_of (slice_get c.lambdas l))
    (spread (captured_by (slice_get c.lambdas l)) vs) j (w ∷ ops) s
told c (instr.Global g) j s ops Go = called c (slice_get c.globals g) [] j ops s
told c (instr.New t) j s ops (Made h) = Some (moved_to j (ends_of h ∷ ops) s)
told c (instr.Fork l) j s ops Forked =
    without_captured j (collected (captured_count (slice_get c.lambdas l)) ops none) s
told c instr.Send j s (end x ∷ v ∷ ops) Sent = Some (moved_to j (end x ∷ ops) s)
told c (instr.Select l) j s (end x ∷ ops) Sent = Some (moved_to j (end x ∷ ops) s)
told c instr.Receive j s (end x ∷ ops) (Got ev) = option_map
    (λ v. moved_to j (pair (of_scalar v) (end x) ∷ ops) s) (received ev)
told c instr.Close j s (end x ∷ ops) Sent = Some (moved_to j (unit ∷ ops) s)
told c instr.Wait j s (end x ∷ ops) (Got ev) = option_map
    (λ v. moved_to j (of_scalar v ∷ ops) s) (awaited ev)
told c (instr.Match places) j s (end x ∷ ops) (Got (Label l)) = option_map
    (λ place. moved_to place (end x ∷ ops) s) (place_of places.items l)
told c i j s ops a = None

-- the spot after an answer
abbrev pub told_at : Compiled → Spot → Answer → Option Spot
told_at c s a = on_instr c s.place (λ i j. told c i j s s.operands a)

-- where a task starts, with the values that it captures
abbrev pub forked_spot : Option LambdaEntry → Option (ValueTrees × List ValueTree) → Option Spot
forked_spot None p = None
forked_spot (Some e) None = None
forked_spot (Some e) (Some p) = Some (begins_at e.start (spread e.captured.items p.0))

-- the task that a fork makes
abbrev pub forks_at : Compiled → Instr → List ValueTree → Option Spot
forks_at c (instr.Fork l) ops = forked_spot (slice_get c.lambdas l)
    (collected (captured_count (slice_get c.lambdas l)) ops none)
forks_at c i ops = None

-- the task that is made where a fork is asked for
abbrev pub child_at : Compiled → Spot → Option Spot
child_at c s = on_instr c s.place (λ i j. forks_at c i s.operands)
