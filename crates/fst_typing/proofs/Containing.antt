-- What a list contains, and the list of a function's values.
use Rattle.std.proofs.Common.{◌≡◌, ℕ, zero, suc, List, [], ◌∷◌, map, refl, sym, subst, arith}
use Rattle.std.specs.Prelude.{Contains}
use Rattle.fst_types.specs.declared.label.Label.TheVariants.{Offer}

pub contains_first : {X : Type 0} (x : X) (xs : List X) → Contains (x ∷ xs) x
contains_first x xs = (zero, omega arith, refl)

pub contains_later : {X : Type 0} (x y : X) (xs : List X) → Contains xs y → Contains (x ∷ xs) y
contains_later x y xs h = (suc h.0, omega (arith, h.1), h.2)

pub no_first : {X : Type 0} (x : X) → Contains [] x → ⊥
no_first x h = absurd (omega (arith, h.1))

-- an element of a list is its first or one of the others
pub contains_cases : {X : Type 0} (C : Type 0) (x y : X) (xs : List X) → Contains (x ∷ xs) y → (x ≡ y → C) →
    (Contains xs y → C) → C
contains_cases C x y xs (zero, lt, e) f g = f e
contains_cases C x y xs (suc k, lt, e) f g = g (k, omega (arith, lt), e)

pub mapped_contains : {X Y : Type 0} (f : X → Y) (xs : List X) (x : X) → Contains xs x → Contains (map f xs) (f x)
mapped_contains f [] x h = absurd (no_first x h)
mapped_contains {X} {Y} f (y ∷ xs) x h =
    contains_cases (Contains (map f (y ∷ xs)) (f x)) y x xs h
    (λ e. subst (λ z. Contains (f y ∷ map f xs) (f z)) e (contains_first (f y) (map f xs)))
    (λ g. contains_later (f y) (f x) (map f xs) (mapped_contains f xs x g))

pub contains_mapped : {X Y : Type 0} (f : X → Y) (xs : List X) (y : Y) → Contains (map f xs) y → (x : X) × Contains xs x ×
    (y ≡ f x)
contains_mapped f [] y h = absurd (no_first y h)
contains_mapped {X} {Y} f (x ∷ xs) y h =
    contains_cases ((z : X) × Contains (x ∷ xs) z × (y ≡ f z)) (f x) y (map f xs) h
    (λ e. (x, contains_first x xs, sym e))
    (λ g. let r = contains_mapped f xs y g in (r.0, contains_later x r.0 xs r.1, r.2))

-- a list whose elements are values of a function is the list of its values at some
pub all_mapped : {X Y : Type 0} (f : X → Y) (ys : List Y) → ((y : Y) → Contains ys y → (x : X) × (y ≡ f x)) → (xs : List X) ×
    (ys ≡ map f xs)
all_mapped f [] h = ([], refl)
all_mapped f (y ∷ ys) h =
    let first = h y (contains_first y ys) in
    let others = all_mapped f ys (λ z g. h z (contains_later y z ys g)) in
    (first.0 ∷ others.0, λ i. first.1 i ∷ others.1 i)

pub same_offer : (x y : List ℕ) → Offer x ≡ Offer y → x ≡ y
same_offer x y h = cc
