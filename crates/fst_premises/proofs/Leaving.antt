-- Which of the variables that are left is the first that wasn't used.
use Rattle.std.proofs.Common.{◌≡◌, ◌∙◌, ◌+◌, ◌-◌, ◌<◌, inl, inr, ℕ, zero, suc, Bool, true, false, List, [], ◌∷◌, length, Option, Some, None, cond, get_or, refl, sym, ap, subst, arith}
use Rattle.std.proofs.lemmas.Bool.{cases_lt}
use Rattle.fst_terms.specs.declared.binder.Binder.{Binder}
use Rattle.fst_context.specs.Scope.{Scope, at_or_not, left, tail}
use Rattle.fst_context.specs.View.{left_at}
use Rattle.fst_context.specs.declared.context.Left.{Left}
use Rattle.fst_context.specs.declared.context.Left.TheVariants.{Used, Unused as Still}
use Rattle.fst_premises.specs.Scopes.{AreUsed, left_all, noted}
use Rattle.fst_premises.specs.Shown.{ShowsUnused}
use Rattle.fst_premises.proofs.LeftScopes.{at_left}
use Rattle.fst_premises.specs.declared.fault.CheckFault.{CheckFault}
use Rattle.fst_premises.specs.declared.fault.CheckFault.TheVariants.{Unused}

-- of the innermost n variables the outermost that is linear and there
abbrev pub IsLastThere : ℕ → Scope → Option ℕ → Type 0
IsLastThere n s None = AreUsed n s
IsLastThere n s (Some k) = (k < n) × (at_or_not s.there k ≡ true) × ((j : ℕ) → k < j → j < n → at_or_not s.there j ≡ false)

-- an element behind the first one
behind : (x : Binder) (xs : List Binder) (k : ℕ) (d : Binder) → k < length xs →
    get_or (x ∷ xs) (length (x ∷ xs) - 1 - k) d ≡ get_or xs (length xs - 1 - k) d
behind x xs k d h = let e : length (x ∷ xs) - 1 - k ≡ suc (length xs - 1 - k) = omega (arith, h) in ap
    (λ n. get_or (x ∷ xs) n d) e

-- the first element
in_front : (x : Binder) (xs : List Binder) (k : ℕ) (d : Binder) → k ≡ length xs → get_or (x ∷ xs) (length (x ∷ xs) - 1 - k) d ≡ x
in_front x xs k d h = let e : length (x ∷ xs) - 1 - k ≡ zero = omega (arith, h) in ap (λ n. get_or (x ∷ xs) n d) e

-- that variable is the first of its binders that isn't used
pub shows_unused : (s : Scope) (xs : List Binder) (k : ℕ) (d : Binder) → IsLastThere (length xs) s (Some k) → (f : CheckFault) →
    f ≡ Unused (get_or xs (length xs - 1 - k) d).at (get_or xs (length xs - 1 - k) d).name → ShowsUnused s xs f
shows_unused s [] k d h f e = absurd (omega (arith, h.0))
shows_unused s (x ∷ xs) k d h f e =
    elim (cases_lt k (length xs)) as (λ o. ShowsUnused s (x ∷ xs) f) [
      | inl l ↦ inr (
        h.2 (length xs) l (omega arith),
        shows_unused s xs k d (l, h.1, λ j i o. h.2 j i (omega (arith, o))) f
            (e ∙ ap (λ (b : Binder). Unused b.at b.name) (behind x xs k d l)),
      )
      | inr g ↦ let same : k ≡ length xs = omega (arith, h.0, g) in
          inl (record {
            there = subst (λ j. at_or_not s.there j ≡ true) same h.1;
            is = e ∙ ap
                (λ (b : Binder). Unused b.at b.name) (in_front x xs k d same);
          })
    ]

length_tail : {X : Type 0} (xs : List X) → length (tail xs) ≡ length xs - 1
length_tail [] = refl
length_tail (x ∷ xs) = omega arith

-- each leaving takes one variable
pub left_length : (n : ℕ) (s : Scope) → length (left_all n s).variables ≡ length s.variables - n
left_length zero s = omega arith
left_length (suc n) s = omega (arith, left_length n (left s), length_tail s.variables)

-- one variable more is left
pub last_more : (n : ℕ) (s now : Scope) (u : Option ℕ) (found : Left) → IsLastThere n s u → now ≡ left_all n s →
    found ≡ left_at now → IsLastThere (n + 1) s (noted found n u)
last_more n s now u found h e f =
    let mark : at_or_not now.there 0 ≡ at_or_not s.there n = ap (λ (z : Scope). at_or_not z.there 0) e ∙ at_left n s in
    pick (at_or_not s.there n) refl (f ∙ ap (λ b. cond b Still Used) mark)
  where
    pick : (b : Bool) → at_or_not s.there n ≡ b → found ≡ cond b Still Used → IsLastThere (n + 1) s (noted found n u)
    pick true g i = subst (λ o. IsLastThere (n + 1) s (noted o n u)) (sym i)
        (omega arith, g, λ j k l. absurd (omega (arith, k, l)))
    pick false g i = subst (λ o. IsLastThere (n + 1) s (noted o n u)) (sym i) (others u h g)
      where
        others : (o : Option ℕ) → IsLastThere n s o → at_or_not s.there n ≡ false → IsLastThere (n + 1) s o
        others None l m = λ j k. elim (cases_lt j n) as (λ _. at_or_not s.there j ≡ false)
            [ inl q ↦ l j q | inr q ↦ let same : n ≡ j = omega (arith, k, q) in subst (λ i. at_or_not s.there i ≡ false) same m ]
        others (Some p) l m = (
          omega (arith, l.0),
          l.1,
          λ j a k. elim (cases_lt j n) as (λ _. at_or_not s.there j ≡ false) [
            | inl q ↦ l.2 j a q
            | inr q ↦ let same : n ≡ j = omega (arith, k, q) in subst
                (λ i. at_or_not s.there i ≡ false) same m
          ],
        )
