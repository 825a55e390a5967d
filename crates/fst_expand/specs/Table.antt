-- The list of pairs that a table of numbers stands for.
use Rattle.std.specs.Prelude.{◌≡◌, ℕ, List, [], ◌∷◌, ◌++◌, Option, Some, None, slice_get, ◌⊎◌}
use Rattle.fst_shared.specs.Shared.{word_of, AreKeys}
use Rattle.fst_basis.specs.declared.proof.Pair.{Pair}
use Rattle.fst_expand.specs.Good.{IsIn, Each}

-- all words by number, and the pairs
pub record Store : Type 0 where
  pub words : List (List ℕ)
  pub pairs : List Pair

-- the pair of the words with these numbers
abbrev pub key_pair : List (List ℕ) → ℕ × ℕ → Pair
key_pair words k = record { left = word_of words k.0; right = word_of words k.1 }

-- the numbers are below n, and no key is twice in the list
pub record AreKeysOnce (n : ℕ) (keys : List (ℕ × ℕ)) : Type 0 where
  pub within : AreKeys n keys
  pub once : (i j : ℕ) (k : ℕ × ℕ) → slice_get keys i ≡ Some k → slice_get keys j ≡ Some k → i ≡ j

-- pairs are only added
pub record Grows (old new : List Pair) : Type 0 where
  pub more : List Pair
  pub grown : new ≡ old ++ more

-- each pair was there before or is one of these
abbrev pub Adds : List Pair → List Pair → List Pair → Type 0
Adds cuts old new = Each (λ b. IsIn b old ⊎ IsIn b cuts) new

-- the pairs are those from before with these
pub record Collects (cuts old new : List Pair) : Type 0 where
  pub grows : Grows old new
  pub there : Each (λ b. IsIn b new) cuts
  pub adds : Adds cuts old new

-- the pair has this number, and no other one is added
pub record IsNumbered (b : Pair) (old new : List Pair) (at : ℕ) : Type 0 where
  pub there : slice_get new at ≡ Some b
  pub grows : Grows old new
  pub adds : Adds (b ∷ []) old new

-- the number is that of the only cut, where there is one
abbrev pub AreNumbered : List Pair → List Pair → List Pair → Option ℕ → Type 0
AreNumbered cuts old new None = (cuts ≡ []) × (new ≡ old)
AreNumbered cuts old new (Some at) = (b : Pair) × (cuts ≡ b ∷ []) × IsNumbered b old new at
