-- The first in order of text.
use Rattle.std.specs.Prelude.{◌≡◌, ◌<◌, ℕ, suc, List, [], ◌∷◌, ◌++◌, ⊤}

-- what begins before this byte is as P says
abbrev pub AreBefore : {A : Type 0} → (A → ℕ) → (A → Type 0) → ℕ → List A → Type 0
AreBefore begins P at [] = ⊤
AreBefore begins P at (x ∷ xs) = (begins x < at → P x) × AreBefore begins P at xs

-- x stands in the list; what begins before it is as P says, and so is what begins where it does and stands before it
pub record IsFirst {A : Type 0} (begins : A → ℕ) (P : A → Type 0) (xs : List A)
    (x : A) : Type 0 where
  pub before : List A
  pub after : List A
  pub stands : xs ≡ before ++ x ∷ after
  pub earlier : AreBefore begins P (suc (begins x)) before
  pub later : AreBefore begins P (begins x) after
