-- The rule of a channel: what its cell holds, and what each end knows of it.
use Rattle.std.specs.Prelude.{◌≡◌, ℕ, ◌+◌, ◌*◌, ◌%◌, ◌^◌, ◌<◌, ◌⊎◌, List, [], ◌∷◌, ◌++◌, length, true, Option, Some, None, IsSome}
use mathlib.Core.Option.{Option as Maybe, none, some}
use Rattle.atomic_table.specs.Table.{State, Me}
use Rattle.fst_types.specs.declared.side.Side.{Side}
use Rattle.fst_types.specs.declared.side.Side.TheVariants.{Left, Right}
use Rattle.fst_types.specs.Tree.{Tree}
use Rattle.fst_kinds.specs.WellFormed.{IsSession}
use Rattle.fst_lts.specs.Histories.{after_history, opposite}
use Rattle.fst_types.specs.declared.event.Entry.{Entry}
use Rattle.fst_cell.specs.declared.content.Offer.{Offer}
use Rattle.fst_cell.specs.declared.content.Standing.{Standing}
use Rattle.fst_cell.specs.declared.content.Content.{Content}
use Rattle.fst_cell.specs.declared.content.Half.{Half}
use Rattle.fst_cell.specs.declared.content.View.{View}
use Rattle.fst_cell.specs.declared.content.View.TheVariants.{Maker, Only, Whole, Nothing}
use Rattle.fst_lts.specs.Residuals.{residual, sends}
use Rattle.fst_lts.specs.Stamps.{AreStamped}

-- an offer, where it is the side's
abbrev pub offer_of : Side → Side → Offer → Option Offer
offer_of Left Left o = Some o
offer_of Left Right o = None
offer_of Right Left o = None
offer_of Right Right o = Some o

-- the same of what may stand
abbrev pub stands_for : Side → Option Standing → Option Offer
stands_for s None = None
stands_for s (Some x) = offer_of s x.side x.offer

-- 1 where an offer stands
abbrev pub offers : Option Standing → ℕ
offers None = 0
offers (Some x) = 1

-- the turn word: h is 1 where the turn is held
abbrev pub turn_word : Content → ℕ → ℕ
turn_word c h = 4 * length c.history + 2 * offers c.offer + h

-- the side may send this next
abbrev pub Waits : Tree → Side → List Entry → Offer → Type 0
Waits t side h o = (sends (residual side t h) o.event ≡ true) × (o.clock < 2 ^ 63)

-- the content of a cell: the declared type is a closed session type, the history is a trace of it with its stamps, and what stands offered may be sent
pub record Sound (c : Content) : Type 0 where
  pub formed : IsSession [] c.declared
  pub trace : IsSome (after_history c.declared c.history)
  pub stamped : AreStamped 0 c.history
  pub standing : (s : Standing) → c.offer ≡ Some s → Waits c.declared s.side c.history s.offer

-- the side's offer was taken: it is the one entry that the history has more than the side knows
pub record Lags (c : Content) (side : Side) (h : List Entry) (o : Offer) : Type 0 where
  pub none_stands : stands_for side c.offer ≡ None
  pub entry : Entry
  pub longer : c.history ≡ h ++ entry ∷ []
  pub event : entry.event ≡ o.event
  pub sent : entry.sent ≡ o.clock

-- what a side knows of the history, and of its own offer while it waits
abbrev pub Place : Content → Side → List Entry → Option Offer → Type 0
Place c side h None = (h ≡ c.history) × (stands_for side c.offer ≡ None)
Place c side h (Some o) = Waits c.declared side h o ×
    (((h ≡ c.history) × (stands_for side c.offer ≡ Some o)) ⊎ Lags c side h o)

-- what an end knows fits the content
pub record Fits (c : Content) (v : Half) : Type 0 where
  pub declared : v.declared ≡ c.declared
  pub place : Place c v.side v.history v.offer

-- who holds the turn: the word, and where the content is
abbrev pub Turn : Content → List ℕ → List (Maybe (Option Content)) → Option Content →
    Option Content → Type 0
Turn c ws hs None None = (ws ≡ turn_word c 0 ∷ []) × (hs ≡ some (Some c) ∷ [])
Turn c ws hs None (Some d) = (d ≡ c) × (ws ≡ turn_word c 1 ∷ []) × (hs ≡ none ∷ [])
Turn c ws hs (Some d) None = (d ≡ c) × (ws ≡ turn_word c 1 ∷ []) × (hs ≡ none ∷ [])
Turn c ws hs (Some d) (Some e) = ⊥

-- the two ends of one cell
pub record Ends (c : Content) (ws : List ℕ) (hs : List (Maybe (Option Content)))
    (l r : Half) : Type 0 where
  pub sides : r.side ≡ opposite l.side
  pub sound : Sound c
  pub left : Fits c l
  pub right : Fits c r
  pub turn : Turn c ws hs l.held r.held

-- the seats: both ends with one seat, at the start and at the end, or each end with its own
abbrev pub Arranged : Content → List ℕ → List (Maybe (Option Content)) → List View → Type 0
Arranged c ws hs (Only l ∷ Only r ∷ []) = (l.side ≡ Left) × Ends c ws hs l r
Arranged c ws hs (Maker l r ∷ []) = (l.side ≡ Left) × Ends c ws hs l r
Arranged c ws hs (Whole l r ∷ Nothing ∷ []) = (l.side ≡ Left) × Ends c ws hs l r
Arranged c ws hs views = ⊥

-- the rule: there is a content that all seats fit
abbrev pub Holds : State (Option Content) View → Type 0
Holds s = (c : Content) × Arranged c s.words s.homes s.views

-- an end that has done nothing
abbrev pub fresh : Side → Tree → Half
fresh side t = record {
  side = side;
  declared = t;
  history = [];
  offer = None;
  tries = 0;
  found = 0;
  held = None;
}

-- and the seat of both ends at the start
abbrev pub both_fresh : Tree → View
both_fresh t = Maker (fresh Left t) (fresh Right t)

-- the seats after the ends have parted
abbrev pub left_of : View → View
left_of (Maker l r) = Only l
left_of v = v

-- the right one
abbrev pub right_of : View → View
right_of (Maker l r) = Only r
right_of v = Nothing

-- the seat that both are joined to
abbrev pub joined : View → View → View
joined (Only l) (Only r) = Whole l r
joined v w = v

-- a try that found the word n
abbrev pub tried : Half → ℕ → Half
tried v n = record {
  side = v.side;
  declared = v.declared;
  history = v.history;
  offer = v.offer;
  tries = v.tries + 1;
  found = n;
  held = None;
}

-- a try that found the turn free, and this content
abbrev pub took : Half → ℕ → Content → Half
took v n c = record {
  side = v.side;
  declared = v.declared;
  history = v.history;
  offer = v.offer;
  tries = v.tries + 1;
  found = n;
  held = Some c;
}

-- the end knows the content that it gives back
abbrev pub synced : Half → Content → Half
synced v c = record {
  side = v.side;
  declared = v.declared;
  history = c.history;
  offer =
      stands_for v.side c.offer;
  tries = v.tries;
  found = v.found;
  held = None;
}

-- what is out with a seat that took the turn
abbrev pub out : Content → List (ℕ × Option Content)
out c = (0, Some c) ∷ []

-- a try tells that the turn was held, or gives the content, which fits what the end knows
abbrev pub Tried : Half → ℕ → Me (Option Content) View → Type 0
Tried v n m =
    ((n % 2 ≡ 1) × (m ≡ (Only (tried v n), [])))
    ⊎ ((c : Content) × (n ≡ turn_word c 0) × (m ≡ (Only (took v n c), out c)) × Sound c × Fits c v)

-- the same of a seat; the joined seat finds the turn free
abbrev pub TriedAs : View → ℕ → Me (Option Content) View → Type 0
TriedAs (Only v) n m = Tried v n m
TriedAs (Whole l r) n m = (c : Content) × (n ≡ turn_word c 0) ×
    (m ≡ (Whole (took l n c) r, out c)) × Sound c × Fits c l × Fits c r
TriedAs v n m = Unit {0}

-- giving the turn back
abbrev pub ReturnedAs : View → List (ℕ × Option Content) → Me (Option Content) View → Type 0
ReturnedAs (Only v) ((k, Some c) ∷ []) m = m ≡ (Only (synced v c), [])
ReturnedAs v xs m = Unit {0}

-- the content at the start
abbrev pub empty : Tree → Content
empty t = record { declared = t; history = []; offer = None }
