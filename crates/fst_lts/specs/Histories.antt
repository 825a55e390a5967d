-- What passes over channels: the labels of events, residuals of ends, and traces.
use Rattle.std.specs.Prelude.{ℕ, zero, Option, Some, None, List, [], ◌∷◌, ⊤, Bool as Truth, true, false}
use Rattle.fst_types.specs.Tree.{Tree}
use Rattle.fst_types.specs.declared.base.Base.TheVariants as base
use Rattle.fst_types.specs.declared.label.Label.{Label}
use Rattle.fst_types.specs.declared.label.Label.TheVariants as label
use Rattle.fst_types.specs.declared.side.Side.{Side}
use Rattle.fst_types.specs.declared.side.Side.TheVariants.{Left, Right}
use Rattle.fst_base.specs.Agreement.{residual}
use Rattle.fst_lts.specs.Step.{step}
use Rattle.fst_lts.specs.Dual.{dual}
use Rattle.fst_types.specs.declared.event.Event.{Event}
use Rattle.fst_types.specs.declared.event.Event.TheVariants.{Int, Bool, Char, Unit, Label as Branch, Closed}
use Rattle.fst_types.specs.declared.event.Entry.{Entry}

-- the label by which a type moves where the event is sent
abbrev pub sending : Event → Label
sending (Int n) = label.Send base.Int
sending (Bool b) = label.Send base.Bool
sending (Char c) = label.Send base.Char
sending Unit = label.Send base.Unit
sending (Branch l) = label.Select l
sending Closed = label.Close

-- and where it is received
abbrev pub receiving : Event → Label
receiving (Int n) = label.Receive base.Int
receiving (Bool b) = label.Receive base.Bool
receiving (Char c) = label.Receive base.Char
receiving Unit = label.Receive base.Unit
receiving (Branch l) = label.Offer l
receiving Closed = label.Wait

-- an output: something is sent by the label, or the protocol closed
abbrev pub is_output : Label → Truth
is_output (label.Send b) = true
is_output (label.Receive b) = false
is_output (label.Select l) = true
is_output (label.Offer l) = false
is_output label.Close = true
is_output label.Wait = false
is_output (label.Var k) = false

-- an input: something is received by the label, or it waits for the end
abbrev pub IsInput : Label → Type 0
IsInput (label.Send b) = ⊥
IsInput (label.Receive b) = ⊤
IsInput (label.Select l) = ⊥
IsInput (label.Offer l) = ⊤
IsInput label.Close = ⊥
IsInput label.Wait = ⊤
IsInput (label.Var k) = ⊥

-- the first that is there
abbrev pub over : {X : Type 0} → Option X → Option X → Option X
over None o = o
over (Some x) o = Some x

-- the type after an event that it sends or else receives: a closed type that moves does just one of both
abbrev pub after_event : Tree → Event → Option Tree
after_event t ev = over (step t (sending ev)) (step t (receiving ev))

-- the events of a history
abbrev pub events_of : List Entry → List Event
events_of [] = []
events_of (e ∷ es) = e.event ∷ events_of es

-- the type after a history
abbrev pub after_history : Tree → List Entry → Option Tree
after_history t h = residual after_event t (events_of h)

-- the type of one end of a channel, where the left end has this one
abbrev pub side_type : Side → Tree → Tree
side_type Left t = t
side_type Right t = dual t

-- the other end
abbrev pub opposite : Side → Side
opposite Left = Right
opposite Right = Left

-- the stamp of the last entry, or 0
abbrev pub last_stamp : List Entry → ℕ
last_stamp [] = zero
last_stamp (e ∷ []) = e.stamp
last_stamp (e ∷ d ∷ es) = last_stamp (d ∷ es)
