-- What is left of the type of an end, and what it allows next.
use Rattle.std.specs.Prelude.{◌≡◌, ◌≤◌, ℕ, Bool, false, Option, Some, None, List, Contains, is_some, length}
use Rattle.fst_types.specs.declared.label.Label.{Label}
use Rattle.fst_types.specs.declared.label.Label.TheVariants.{Offer}
use Rattle.fst_types.specs.declared.side.Side.{Side}
use Rattle.fst_types.specs.Tree.{Tree}
use Rattle.fst_lts.specs.Step.{step, labels}
use Rattle.fst_lts.specs.Histories.{sending, receiving, IsInput, after_history, side_type}
use Rattle.fst_types.specs.declared.event.Entry.{Entry}
use Rattle.fst_types.specs.declared.event.Event.{Event}

-- the residual of an end: the type of its side after the history, where the left end has this one
unfoldable pub residual : Side → Tree → List Entry → Option Tree
residual side t h = after_history (side_type side t) h

-- the event may be sent next
unfoldable pub sends : Option Tree → Event → Bool
sends None x = false
sends (Some t) x = is_some (step t (sending x))

-- the event may be received next
unfoldable pub receives : Option Tree → Event → Bool
receives None x = false
receives (Some t) x = is_some (step t (receiving x))

-- an input comes next
unfoldable pub asks : Option Tree → Type 0
asks o = (t : Tree) × (a : Label) × (u : Tree) × (o ≡ Some t) × IsInput a × (step t a ≡ Some u)

-- no label that the type offers first has more bytes
abbrev pub AreOfferedWithin : ℕ → Tree → Type 0
AreOfferedWithin n t = (l : List ℕ) → Contains (labels t) (Offer l) → length l ≤ n
