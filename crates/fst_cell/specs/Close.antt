-- What closing gives.
use Rattle.std.specs.Prelude.{◌≡◌, ◌==◌, ◌⊎◌, List, [], ◌∷◌, ◌++◌, length, Bool, true, Option, Some, None, IsSome, if◌then◌else◌, nat_lt}
use Rattle.fst_types.specs.declared.side.Side.{Side}
use Rattle.fst_kinds.specs.WellFormed.{IsSession}
use Rattle.fst_lts.specs.Histories.{after_history}
use Rattle.fst_types.specs.declared.event.Event.{Event}
use Rattle.fst_types.specs.declared.event.Entry.{Entry}
use Rattle.fst_types.specs.declared.ends.ChannelName.{ChannelName}
use Rattle.fst_cell.specs.declared.content.Offer.{Offer}
use Rattle.fst_cell.specs.declared.content.Half.{Half}
use Rattle.fst_cell.specs.declared.answers.Closed.{Closed}
use Rattle.fst_lts.specs.Stamps.{AreStamped}

-- the longer one of two histories
abbrev pub longer_of : List Entry → List Entry → List Entry
longer_of a b = if nat_lt (length a) (length b) then b else a

-- an offer with its side, where this holds
abbrev pub stand_if : Bool → Side → Option Offer → Option (Side × Event)
stand_if true s (Some o) = Some (s, o.event)
stand_if b s o = None

-- the offer that waits at the end of the history
abbrev pub stands_at : List Entry → Half → Option (Side × Event)
stands_at h v = stand_if (length v.history == length h) v.side v.offer

-- the first that is there
abbrev pub either_of : Option (Side × Event) → Option (Side × Event) → Option (Side × Event)
either_of (Some x) y = Some x
either_of None y = y

-- an end that waits, and whose offer doesn't stand, has its offer as the last entry
abbrev pub Trails : List Entry → Half → Type 0
Trails h v = (o : Offer) → v.offer ≡ Some o → (v.history ≡ h) ⊎
    ((e : Entry) × (h ≡ v.history ++ e ∷ []) × (e.event ≡ o.event) × (e.sent ≡ o.clock))

-- what closing gives: the history is the longer one that the ends know, and the offer that still stands; an end that doesn't wait lacks no entry
pub record ClosedAs (channel : ChannelName) (l r : Half) (c : Closed) : Type 0 where
  pub named : c.history.name ≡ channel
  pub left_declared : c.history.declared ≡ l.declared
  pub right_declared : c.history.declared ≡ r.declared
  pub formed : IsSession [] c.history.declared
  pub entries : c.history.entries.items ≡ longer_of l.history r.history
  pub offered : c.offered ≡ either_of (stands_at c.history.entries.items l)
      (stands_at c.history.entries.items r)
  pub left : Trails c.history.entries.items l
  pub right : Trails c.history.entries.items r
  pub left_level : l.offer ≡ None → l.history ≡ c.history.entries.items
  pub right_level : r.offer ≡ None → r.history ≡ c.history.entries.items
  pub trace : IsSome (after_history c.history.declared c.history.entries.items)
  pub stamped : AreStamped 0 c.history.entries.items
