-- Events as codes, by which they are told apart.
use Rattle.std.proofs.Common.{◌≡◌, ◌⊎◌, inl, inr, ℕ, Bool, true, false, List, refl}
use Rattle.std.specs.Prelude.{ℤ}
use Rattle.std.specs.Coded.{Coded, code_by, coded⊎, coded_ℕ, coded_ℤ, coded_bool, coded_list}
use Rattle.fst_types.specs.declared.event.Event.{Event}
use Rattle.fst_types.specs.declared.event.Event.TheVariants as event

-- what an event says
abbrev pub Said : Type 0
Said = ℤ ⊎ (Bool ⊎ (ℕ ⊎ (Bool ⊎ List ℕ)))

-- what this event says
abbrev pub said : Event → Said
said (event.Int n) = inl n
said (event.Bool b) = inr (inl b)
said (event.Char c) = inr (inr (inl c))
said event.Unit = inr (inr (inr (inl true)))
said (event.Label l) = inr (inr (inr (inr l)))
said event.Closed = inr (inr (inr (inl false)))

-- the event that says this
abbrev pub event_of : Said → Event
event_of (inl n) = event.Int n
event_of (inr (inl b)) = event.Bool b
event_of (inr (inr (inl c))) = event.Char c
event_of (inr (inr (inr (inl true)))) = event.Unit
event_of (inr (inr (inr (inl false)))) = event.Closed
event_of (inr (inr (inr (inr l)))) = event.Label l

-- an event comes back from what it says
pub event_of-said : (ev : Event) → event_of (said ev) ≡ ev
event_of-said (event.Int n) = refl
event_of-said (event.Bool b) = refl
event_of-said (event.Char c) = refl
event_of-said event.Unit = refl
event_of-said (event.Label l) = refl
event_of-said event.Closed = refl

-- the codes of events
abbrev pub event_code : Coded Event
event_code = code_by Said (coded⊎ coded_ℤ (coded⊎ coded_bool (coded⊎ coded_ℕ (coded⊎ coded_bool (coded_list coded_ℕ))))) said
    event_of event_of-said
