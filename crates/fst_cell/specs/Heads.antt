-- The part of a type that moves first, and what moves leave of a type.
use Rattle.std.specs.Prelude.{◌≡◌, false, Option, Some, None, if◌then◌else◌}
use Rattle.fst_types.specs.declared.label.Label.{Label}
use Rattle.fst_types.specs.Tree.{Tree, skip, send, receive, close, wait, select, offer, seq, rec, back, var, plain, arrow, pair, named}
use Rattle.fst_lts.specs.Step.{step, terminated}
use Rattle.fst_lts.specs.Histories.{after_event}
use Rattle.fst_types.specs.declared.event.Event.{Event}
use Rattle.fst_cell.specs.declared.heads.Next.{Next}
use Rattle.fst_cell.specs.declared.heads.Next.TheVariants.{Head, Ended}

-- the part that moves first, where the type isn't terminated
abbrev pub head : Tree → Option Tree
head skip = None
head (send b) = Some (send b)
head (receive b) = Some (receive b)
head close = Some close
head wait = Some wait
head (select bs) = Some (select bs)
head (offer bs) = Some (offer bs)
head (seq s r) = if terminated s then head r else head s
head (rec s) = if terminated s then None else Some (rec s)
head (back k) = Some (back k)
head (var k) = Some (var k)
head (plain b) = Some (plain b)
head (arrow u s r) = Some (arrow u s r)
head (pair s r) = Some (pair s r)
head (named k) = Some (named k)

-- the type with another one in the place of that part; what stands terminated before it is dropped
abbrev pub with_head : Tree → Tree → Tree
with_head skip x = x
with_head (send b) x = x
with_head (receive b) x = x
with_head close x = x
with_head wait x = x
with_head (select bs) x = x
with_head (offer bs) x = x
with_head (seq s r) x = if terminated s then with_head r x else seq (with_head s x) r
with_head (rec s) x = x
with_head (back k) x = x
with_head (var k) x = x
with_head (plain b) x = x
with_head (arrow u s r) x = x
with_head (pair s r) x = x
with_head (named k) x = x

-- what is left of the type: itself with another one in the place of that part, or nothing where a protocol ended
abbrev pub left_of : Tree → Next → Tree
left_of t (Head x) = with_head t x
left_of t Ended = skip

-- the type moves by the label, and this is left of it
abbrev pub MovesOn : Tree → Label → Next → Type 0
MovesOn t a next = (step t a ≡ Some (left_of t next)) × (terminated t ≡ false)

-- the type goes on by the event, and this is left of it
abbrev pub GoesOn : Tree → Event → Next → Type 0
GoesOn t x next = (after_event t x ≡ Some (left_of t next)) × (terminated t ≡ false)
