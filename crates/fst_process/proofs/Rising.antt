-- Lists in order.
use Rattle.std.proofs.Common.{◌≡◌, ◌⊎◌, inl, inr, ℕ, zero, suc, ◌<◌, List, [], ◌∷◌, ◌++◌, get_or, length, refl, arith}
use Rattle.std.specs.Prelude.{Contains}
use Rattle.std.proofs.lemmas.List.Elements.{Contains-append_cases}
use Rattle.fst_runs.specs.Order.{AreRising}

-- an element of a list is its first one, or one of the others
pub first_or_rest : {X : Type 0} (x : X) (xs : List X) (y : X) → Contains (x ∷ xs) y → (x ≡ y) ⊎ Contains xs y
first_or_rest x xs y h = go h.0 h.1 h.2
  where
    go : (k : ℕ) → k < suc (length xs) → get_or (x ∷ xs) k y ≡ y → (x ≡ y) ⊎ Contains xs y
    go zero l e = inl e
    go (suc k) l e = inr (k, omega (arith, l), e)

-- the first one is an element
pub first_in : {X : Type 0} (x : X) (xs : List X) → Contains (x ∷ xs) x
first_in x xs = (0, omega arith, refl)

-- and so are the others
pub rest_in : {X : Type 0} (x : X) (xs : List X) (y : X) → Contains xs y → Contains (x ∷ xs) y
rest_in x xs y h = let l = h.1 in (suc h.0, omega (arith, l), h.2)

-- nothing is in no list
pub none_in : {X : Type 0} (y : X) → Contains [] y → ⊥
none_in y h = let l = h.1 in omega (arith, l)

-- two lists in order are one, where all of the first come before all of the second
pub rising_both : {X : Type 0} (R : X → X → Type 0) (xs ys : List X) → AreRising R xs → AreRising R ys →
    ((x y : X) → Contains xs x → Contains ys y → R x y) →
    AreRising R (xs ++ ys)
rising_both R [] ys r s h = s
rising_both R (x ∷ xs) ys r s h = (
  λ y c. elim (Contains-append_cases xs ys y c) [
    | inl a ↦ r.0 y a
    | inr b ↦ h x y (first_in x xs) b
  ],
  rising_both R xs ys r.1 s (λ z y a b. h z y (rest_in x xs z a) b),
)
