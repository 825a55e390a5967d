-- The types that stand nowhere.
use Rattle.std.proofs.Common.{◌≡◌, ◌∙◌, ◌⊎◌, inl, inr, refl, ap, subst, sym, ℕ, zero, suc, ◌<◌, List, [], ◌∷◌, ◌++◌, Bool, true, false, nat_eq, length, map, arith, eq-eqb, get_or, ◌+◌, add-one}
use Rattle.std.specs.Prelude.{if◌then◌else◌, ◌||◌, Contains}
use Rattle.std.specs.List.{list_any, AllByRecursion}
use Rattle.std.proofs.lemmas.Bool.{eqb-true}
use Rattle.std.proofs.Math.Nat.{eq-or-lt_of_le}
use Rattle.fst_base.proofs.Alls.{all_append, all_left, all_right}
use Rattle.fst_written.specs.Readings.{others}

-- a test of numbers of things is one of the numbers
pub any_number : {A : Type 0} (f : A → ℕ) (k : ℕ) (xs : List A) → list_any
    (λ x. nat_eq k (f x)) xs ≡ list_any (nat_eq k) (map f xs)
any_number f k [] = refl
any_number f k (x ∷ xs) = ap (λ test. nat_eq k (f x) || test) (any_number f k xs)

-- one more number that is among these
pub others_same : (ks : List ℕ) (n : ℕ) → list_any (nat_eq n) ks ≡ true → others ks (n + 1) ≡ others ks n
others_same ks n e = ap (others ks) (add-one n) ∙ ap (λ (test : Bool). if test then others ks n else others ks n ++ n ∷ []) e

-- one more that isn't
pub others_more : (ks : List ℕ) (n : ℕ) → list_any (nat_eq n) ks ≡ false → others ks (n + 1) ≡ others ks n ++ n ∷ []
others_more ks n e = ap (others ks) (add-one n) ∙ ap (λ (test : Bool). if test then others ks n else others ks n ++ n ∷ []) e

or_right : (a : Bool) → (a || true) ≡ true
or_right true = refl
or_right false = refl

contains_any : (ks : List ℕ) (q i : ℕ) → i < length ks → get_or ks i q ≡ q → list_any (nat_eq q) ks ≡ true
contains_any [] q i lt e = absurd (omega arith)
contains_any (k ∷ ks) q zero lt e = ap (λ test. test || list_any (nat_eq q) ks) (eq-eqb q k (sym e))
contains_any (k ∷ ks) q (suc i) lt e = ap (λ test. nat_eq q k || test) (contains_any ks q i (omega arith) e)
    ∙ or_right (nat_eq q k)

any_contains : (ks : List ℕ) (q : ℕ) → list_any (nat_eq q) ks ≡ true → Contains ks q
any_contains [] q e = absurd (cc e)
any_contains (k ∷ ks) q e = pick (nat_eq q k) refl e (any_contains ks q)
  where
    pick : (test : Bool) → nat_eq q k ≡ test → (test || list_any (nat_eq q) ks) ≡ true →
        (list_any (nat_eq q) ks ≡ true → Contains ks q) → Contains (k ∷ ks) q
    pick true same h rest = (0, omega arith, sym (eqb-true q k same))
    pick false same h rest = let at = rest h in (suc at.0, omega (arith, at.1), at.2)

-- what holds of the others holds of each number below n that isn't among these
pub others_have : (P : ℕ → Type 0) (ks : List ℕ) (n : ℕ) → AllByRecursion P (others ks n) → (k : ℕ) → k < n →
    (Contains ks k → ⊥) → P k
others_have P ks zero h k lt none = absurd (omega arith)
others_have P ks (suc n) h k lt none = pick (list_any (nat_eq n) ks) refl h (eq-or-lt_of_le (omega arith))
    (λ g less. others_have P ks n g k less none)
  where
    pick : (test : Bool) → list_any (nat_eq n) ks ≡ test →
        AllByRecursion P (if test then others ks n else others ks n ++ n ∷ []) → (k ≡ n) ⊎ (k < n) →
        (AllByRecursion P (others ks n) → k < n → P k) → P k
    pick true among g (inl same) rest = absurd (none (any_contains ks k (ap (λ j. list_any (nat_eq j) ks) same ∙ among)))
    pick true among g (inr less) rest = rest g less
    pick false among g (inl same) rest = subst P (sym same) (all_right P (others ks n) (n ∷ []) g).0
    pick false among g (inr less) rest = rest (all_left P (others ks n) (n ∷ []) g) less

-- and the other way round
pub have_others : (P : ℕ → Type 0) (ks : List ℕ) (n : ℕ) →
    ((k : ℕ) → k < n → (Contains ks k → ⊥) → P k) → AllByRecursion P (others ks n)
have_others P ks zero h = tt
have_others P ks (suc n) h = pick (list_any (nat_eq n) ks) refl (have_others P ks n (λ k lt none. h k (omega arith) none))
  where
    pick : (test : Bool) → list_any (nat_eq n) ks ≡ test → AllByRecursion P (others ks n) →
        AllByRecursion P (if test then others ks n else others ks n ++ n ∷ [])
    pick true among g = g
    pick false among g = all_append P (others ks n) (n ∷ []) g
        (h n (omega arith) (λ at. absurd (cc (sym (contains_any ks n at.0 at.1 at.2) ∙ among))), tt)
