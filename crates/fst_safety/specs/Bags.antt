-- Ends among others.
use Rattle.std.specs.Prelude.{◌≡◌, ◌⊎◌, ◌<◌, ℕ, Bool, true, false, Option, Some, None, Result, Ok, Err, List, [], ◌∷◌, ◌++◌, All, Contains, IsPermutation, length, slice_index_or}
use Rattle.std.specs.declared.alloc.AllocError.{AllocError}
use Rattle.fst_types.specs.Tree.{Tree}
use Rattle.fst_lts.specs.Step.{terminated}
use Rattle.fst_types.specs.declared.ends.EndName.{EndName}
use Rattle.fst_types.specs.declared.event.Event.{Event}
use Rattle.fst_cell.specs.Answers.{end_with, FoundHeld, FoundNothing, FoundStanding, IsOffered, IsTaken, IsNoticed}
use Rattle.fst_lts.specs.Residuals.{sends, asks}
use Rattle.fst_cell.specs.Rule.{tried}
use Rattle.fst_cell.specs.End.{EndView, end_name, residual_of}
use Rattle.fst_safety.specs.Threads.{count_of}

-- the end is put behind the spent ones, or behind the open ones
abbrev pub put_by : Bool → EndView → List EndView → List EndView → List EndView → List EndView →
    Type 0
put_by true e es spent bag retired = (bag ≡ es) × (retired ≡ spent ++ e ∷ [])
put_by false e es spent bag retired = (bag ≡ es ++ e ∷ []) × (retired ≡ spent)

-- the end is put where it belongs
abbrev pub IsPutBack : EndView → List EndView → List EndView → List EndView → List EndView → Type 0
IsPutBack e es spent bag retired = (s : Tree) ×
    (residual_of e.knows ≡ Some s) × put_by (terminated s) e es spent bag retired

-- at this place stands an end of this name
abbrev pub IsPlaced : EndName → List EndView → ℕ → Type 0
IsPlaced x es i = (i < length es) × ((d : EndView) → end_name (slice_index_or es i d) ≡ x)

-- the ends of these names are theirs, the others are mine
pub record AreParted (names : List EndName) (bag mine theirs : List EndView) : Type 0 where
  pub all : IsPermutation bag (mine ++ theirs)
  pub gone : (z : EndName) → Contains names z → count_of z mine ≡ 0
  pub moved : All (λ (e : EndView). Contains names (end_name e)) theirs

-- ---- calls on the end of a place

-- the end may offer this
pub record MayOffer (ev : Event) (e : EndView) : Type 0 where
  pub idle : e.knows.offer ≡ None
  pub sends : sends (residual_of e.knows) ev ≡ true
  pub few : length e.knows.history < 4294967296

-- the end may take
pub record MayTake (e : EndView) : Type 0 where
  pub asks : asks (residual_of e.knows)
  pub few : length e.knows.history < 4294967296

-- the end of this place is another one now, which stands last
pub record IsChanged (P : EndView → EndView → Type 0) (es : List EndView) (i : ℕ)
    (bag : List EndView) : Type 0 where
  pub before : EndView
  pub after : EndView
  pub rest : List EndView
  pub at : (d : EndView) → slice_index_or es i d ≡ before
  pub was : IsPermutation es (before ∷ rest)
  pub is : bag ≡ rest ++ after ∷ []
  pub by : P before after

-- or it is put where it belongs
pub record IsPassed (P : EndView → EndView → Type 0) (es spent : List EndView) (i : ℕ)
    (bag retired : List EndView) : Type 0 where
  pub before : EndView
  pub after : EndView
  pub rest : List EndView
  pub at : (d : EndView) → slice_index_or es i d ≡ before
  pub was : IsPermutation es (before ∷ rest)
  pub put : IsPutBack after rest spent bag retired
  pub by : P before after

-- what an offer at a place answers
abbrev pub OffersAt : List EndView → ℕ → Event → ℕ → Result Bool AllocError → List EndView → Type 0
OffersAt es i ev clock (Ok true) bag = IsChanged (λ e f. IsOffered e ev clock f) es i bag
OffersAt es i ev clock (Ok false) bag = IsChanged FoundHeld es i bag
OffersAt es i ev clock (Err x) bag = IsChanged (λ e f. f ≡ e) es i bag

-- what a notice answers
abbrev pub NoticesAt : List EndView → List EndView → ℕ → Option ℕ → List EndView → List EndView →
    Type 0
NoticesAt es spent i (Some stamp) bag retired = IsPassed
    (λ e f. IsNoticed e stamp f) es spent i bag retired
NoticesAt es spent i None bag retired = IsChanged
    (λ e f. FoundHeld e f ⊎ FoundStanding e f) es i bag × (retired ≡ spent)

-- what a take answers
abbrev pub TakesAt : List EndView → List EndView → ℕ → ℕ → Result (Option (Event × ℕ)) AllocError →
    List EndView → List EndView → Type 0
TakesAt es spent i clock (Ok (Some p)) bag retired = IsPassed
    (λ e f. IsTaken e clock p.0 p.1 f) es spent i bag retired
TakesAt es spent i clock (Ok None) bag retired = IsChanged
    (λ e f. FoundHeld e f ⊎ FoundNothing e f) es i bag × (retired ≡ spent)
TakesAt es spent i clock (Err x) bag retired = IsChanged
    (λ e f. f ≡ end_with e (tried e.knows f.knows.found)) es i bag × (retired ≡ spent)
