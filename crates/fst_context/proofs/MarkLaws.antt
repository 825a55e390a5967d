-- Which marks two lists share.
use Rattle.std.proofs.Common.{◌≡◌, ◌∙◌, ℕ, zero, suc, ◌+◌, ◌-◌, ◌<◌, ◌≤◌, ◌⊎◌, Bool, true, false, List, [], ◌∷◌, length, get_or, refl, sym, ap, arith, inl, inr}
use Rattle.std.proofs.lemmas.List.{length-reverse}
use mathlib.Core.List.{reverse}
use Rattle.fst_context.specs.Scope.{at_or_not}
use Rattle.fst_context.proofs.Places.{mark_place}

at_past : (bs : List Bool) (j : ℕ) → length bs ≤ j → at_or_not bs j ≡ false
at_past [] j h = refl
at_past (b ∷ bs) zero h = absurd (omega arith)
at_past (b ∷ bs) (suc j) h = at_past bs j (omega arith)

step : (j n : ℕ) → (j < n) ⊎ (n ≤ j) → (suc j < suc n) ⊎ (suc n ≤ suc j)
step j n (inl h) = inl (omega arith)
step j n (inr h) = inr (omega arith)

lt-or-le : (j n : ℕ) → (j < n) ⊎ (n ≤ j)
lt-or-le j zero = inr (omega arith)
lt-or-le zero (suc n) = inl (omega arith)
lt-or-le (suc j) (suc n) = step j n (lt-or-le j n)

-- the marks further out than the place up to which the lists were compared
pub outer_marks : (bs cs : List Bool) (i : ℕ) → length bs ≡ length cs → i < length bs →
    ((k : ℕ) (b c : Bool) → k < i → get_or bs k b ≡ get_or cs k c) →
    (j : ℕ) → length bs - 1 - i < j → at_or_not (reverse bs) j ≡ at_or_not (reverse cs) j
outer_marks bs cs i m lt same j h =
    elim (lt-or-le j (length bs)) as (λ z. at_or_not (reverse bs) j ≡ at_or_not (reverse cs) j) [
      | inl a ↦
          let n : (length bs - 1 - j) + j + 1 ≡ length bs = omega (arith, a) in
          mark_place bs (length bs - 1 - j) j true n
          ∙ same (length bs - 1 - j) true true (omega (arith, a, h, lt))
          ∙ sym (mark_place cs (length bs - 1 - j) j true (n ∙ m))
      | inr b ↦
          at_past (reverse bs) j (omega (arith, b, length-reverse bs))
          ∙ sym (at_past (reverse cs) j (omega (arith, b, m, length-reverse cs)))
    ]

pub all_marks : (bs cs : List Bool) → length bs ≡ length cs →
    ((k : ℕ) (b c : Bool) → k < length bs → get_or bs k b ≡ get_or cs k c) → bs ≡ cs
all_marks [] [] h f = refl
all_marks [] (y ∷ cs) h f = absurd (omega (arith, h))
all_marks (x ∷ bs) [] h f = absurd (omega (arith, h))
all_marks (x ∷ bs) (y ∷ cs) h f =
    let first : x ≡ y = f 0 x y (omega arith) in
    let rest = all_marks bs cs (omega (arith, h)) (λ k b c g. f (suc k) b c (omega (arith, g))) in
    λ i. first i ∷ rest i
