-- Where the constructor with each name stands.
use Rattle.std.specs.Global.{Global}
use Rattle.std.specs.Prelude.{◌≡◌, ℕ, Bool, List, length, Vec, Option, Some, slice_get}
use Rattle.std.specs.Map.{lookup}
use Rattle.std.specs.Str.{bytes_eq}
use Rattle.fst_types.specs.declared.family.Family.{Family}
use Rattle.fst_types.specs.declared.family.Maker.{Maker}
use Rattle.fst_machine.specs.Standing.{DistinctMakers}
use Rattle.fst_code.specs.declared.makers.MakerPlace.{MakerPlace}

-- names with the places of their constructors
abbrev pub Entries : Type 0
Entries = List (Vec ℕ Global × MakerPlace)

-- the test for a name
abbrev pub is : List ℕ → Vec ℕ Global → Bool
is x k = bytes_eq x k.items

-- the place of the constructor with a name, if there is one
abbrev pub found : Entries → List ℕ → Option MakerPlace
found entries x = lookup (is x) entries

-- the place of the constructor with this number among these
abbrev pub place_in : List Maker → ℕ → MakerPlace
place_in makers o = record { maker = o; count = length makers }

-- no two of these constructors have the same name
abbrev pub AreApart : List Maker → Type 0
AreApart makers = (o p : ℕ) (m q : Maker) → slice_get makers o ≡ Some m →
    slice_get makers p ≡ Some q → m.name ≡ q.name → o ≡ p

-- these constructors have got their places, and other names have theirs as before
pub record ArePut (makers : List Maker) (old new : Entries) : Type 0 where
  pub own : AreApart makers → (o : ℕ) (m : Maker) → slice_get makers o ≡ Some m →
      found new m.name ≡ Some (place_in makers o)
  pub others : (x : List ℕ) → ((o : ℕ) (m : Maker) → slice_get makers o ≡ Some m → m.name ≡ x → ⊥) →
      found new x ≡ found old x

-- no two constructors have the same name, and each is found by its own
pub record ArePlaced (families : List Family) (entries : Entries) : Type 0 where
  pub distinct : DistinctMakers families
  pub placed : (n o : ℕ) (f : Family) (m : Maker) → slice_get families n ≡ Some f →
      slice_get f.makers.items o ≡ Some m →
      found entries m.name ≡ Some (place_in f.makers.items o)
