-- Elements of a list that grows at its end.
use Rattle.std.proofs.Common.{◌≡◌, ◌⊎◌, ℕ, zero, suc, List, [], ◌∷◌, ◌++◌, length, Some, inl, inr, refl, ap}
use Rattle.std.specs.Prelude.{slice_get}

-- an element stays where it was
pub get_longer : {X : Type 0} → (xs ys : List X) (k : ℕ) (a : X) → slice_get xs k ≡ Some a → slice_get (xs ++ ys) k ≡ Some a
get_longer [] ys k a h = cc
get_longer (x ∷ xs) ys zero a h = h
get_longer (x ∷ xs) ys (suc k) a h = get_longer xs ys k a h

-- the element that was put last
pub get_last : {X : Type 0} → (xs : List X) (a : X) → slice_get (xs ++ a ∷ []) (length xs) ≡ Some a
get_last [] a = refl
get_last (x ∷ xs) a = get_last xs a

-- one more
pub length_last : {X : Type 0} → (xs : List X) (a : X) → length (xs ++ a ∷ []) ≡ suc (length xs)
length_last [] a = refl
length_last (x ∷ xs) a = ap suc (length_last xs a)

-- an element is an earlier one or the last one
pub get_split : {X : Type 0} → (xs : List X) (a : X) (k : ℕ) (b : X) → slice_get (xs ++ a ∷ []) k ≡ Some b →
    (slice_get xs k ≡ Some b) ⊎ ((k ≡ length xs) × (a ≡ b))
get_split [] a zero b h = inr (refl, cc)
get_split [] a (suc k) b h = inl h
get_split (x ∷ xs) a zero b h = inl h
get_split (x ∷ xs) a (suc k) b h = elim (get_split xs a k b h) [ inl e ↦ inl e | inr e ↦ inr (ap suc e.0, e.1) ]
