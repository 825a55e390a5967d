-- What the calls on an end answer.
use Rattle.std.specs.Prelude.{◌≡◌, ℕ, ◌+◌, ◌*◌, ◌%◌, [], ◌∷◌, ◌++◌, length, true, Some, None}
use Rattle.fst_types.specs.declared.event.Event.{Event}
use Rattle.fst_types.specs.declared.event.Entry.{Entry}
use Rattle.fst_cell.specs.declared.content.Offer.{Offer}
use Rattle.fst_cell.specs.declared.content.Half.{Half}
use Rattle.fst_cell.specs.declared.answers.Offered.{Offered}
use Rattle.fst_cell.specs.declared.answers.Offered.TheVariants as offers
use Rattle.fst_cell.specs.declared.answers.TakenEvent.{TakenEvent}
use Rattle.fst_cell.specs.declared.answers.TakenEvent.TheVariants as takes
use Rattle.fst_cell.specs.declared.answers.Noticed.{Noticed}
use Rattle.fst_cell.specs.declared.answers.Noticed.TheVariants as notices
use Rattle.fst_lts.specs.Stamps.{next_stamp}
use Rattle.fst_cell.specs.Rule.{tried}
use Rattle.fst_cell.specs.End.{EndView, residual_of}
use Rattle.fst_lts.specs.Residuals.{receives}

-- the same end, with new knowledge
abbrev pub end_with : EndView → Half → EndView
end_with e v = record { cell = e.cell; channel = e.channel; knows = v }

-- the end after a try that found the word n, with an offer
abbrev pub offered : Half → ℕ → Offer → Half
offered v n o = record {
  side = v.side;
  declared = v.declared;
  history = v.history;
  offer = Some o;
  tries = v.tries + 1;
  found = n;
  held = None;
}

-- the end after a try that found the word n, with one entry more
abbrev pub longer : Half → ℕ → Entry → Half
longer v n x = record {
  side = v.side;
  declared = v.declared;
  history = v.history ++ x ∷ [];
  offer =
      None;
  tries = v.tries + 1;
  found = n;
  held = None;
}

-- an entry of a history
abbrev pub entry : Event → ℕ → ℕ → ℕ → Entry
entry x stamp sent got = record { event = x; stamp = stamp; sent = sent; got = got }

-- another call had the turn: the end is as it was, but for its tries and the word found
pub record FoundHeld (e f : EndView) : Type 0 where
  pub now : f ≡ end_with e (tried e.knows f.knows.found)
  pub held : f.knows.found % 2 ≡ 1

-- the turn was free, and there was no entry that the end doesn't know, and no offer
pub record FoundNothing (e f : EndView) : Type 0 where
  pub now : f ≡ end_with e (tried e.knows f.knows.found)
  pub free : f.knows.found ≡ 4 * length e.knows.history

-- the turn was free, and there was no entry that the end doesn't know; an offer stood, its own
pub record FoundStanding (e f : EndView) : Type 0 where
  pub now : f ≡ end_with e (tried e.knows f.knows.found)
  pub stands : f.knows.found ≡ 4 * length e.knows.history + 2

-- the event stands offered, where there was no offer
pub record IsOffered (e : EndView) (x : Event) (clock : ℕ) (f : EndView) : Type 0 where
  pub now : f ≡ end_with e (offered e.knows f.knows.found (record { event = x; clock = clock }))
  pub free : f.knows.found ≡ 4 * length e.knows.history

-- the event that stood offered is one that the end may receive; it is an entry of the history now, with the offer's clock, this one and the next stamp
pub record IsTaken (e : EndView) (clock : ℕ) (x : Event) (stamp : ℕ) (f : EndView) : Type 0 where
  pub sent : ℕ
  pub now : f ≡ end_with e (longer e.knows f.knows.found (entry x stamp sent clock))
  pub stamped : stamp ≡ next_stamp sent clock e.knows.history
  pub received : receives (residual_of e.knows) x ≡ true
  pub stood : f.knows.found ≡ 4 * length e.knows.history + 2

-- the end's offer is an entry of the history now, with the next stamp
pub record IsNoticed (e : EndView) (stamp : ℕ) (f : EndView) : Type 0 where
  pub taken : Entry
  pub offer : e.knows.offer ≡ Some (record { event = taken.event; clock = taken.sent })
  pub now : f ≡ end_with e (longer e.knows f.knows.found taken)
  pub stamp_is : taken.stamp ≡ stamp
  pub stamped : stamp ≡ next_stamp taken.sent taken.got e.knows.history

-- what an offer answers, told by what the end knows before and after
abbrev pub OfferedAs : EndView → Event → ℕ → Offered → Type 0
OfferedAs e x clock (offers.Waiting f) = IsOffered e x clock f
OfferedAs e x clock (offers.Busy f y) = (y ≡ x) × FoundHeld e f
OfferedAs e x clock (offers.Memory f y) = (y ≡ x) × (f ≡ e)

-- what a take answers; room for the entry is taken behind the turn, so without it the end has tried
abbrev pub TakenAs : EndView → ℕ → TakenEvent → Type 0
TakenAs e clock (takes.Got x stamp f) = IsTaken e clock x stamp f
TakenAs e clock (takes.NotYet f) = FoundNothing e f
TakenAs e clock (takes.Busy f) = FoundHeld e f
TakenAs e clock (takes.Memory f) = f ≡ end_with e (tried e.knows f.knows.found)

-- what a notice answers
abbrev pub NoticedAs : EndView → Noticed → Type 0
NoticedAs e (notices.Done stamp f) = IsNoticed e stamp f
NoticedAs e (notices.NotYet f) = FoundStanding e f
NoticedAs e (notices.Busy f) = FoundHeld e f
