-- The list of candidates that a table of them stands for.
use Rattle.std.proofs.Common.{◌≡◌, ◌≢◌, ◌+◌, ◌*◌, ◌<◌, ◌≤◌, inl, inr, ℕ, zero, suc, List, [], ◌∷◌, ◌++◌, length, append-nil, refl, sym, ◌∙◌, ap, subst, arith, Option, true, false, ◌||◌, Some, cond, get_or, map}
use Rattle.std.specs.Prelude.{slice_get}
use Rattle.std.specs.List.{AllPairs, IsDistinct, list_any}
use Rattle.std.proofs.Math.Dec.{eqb}
use Rattle.std.proofs.lemmas.Bool.Decides.{eqb_tells}
use Rattle.std.proofs.lemmas.List.{get_or-map, length-map}
use Rattle.std.proofs.lemmas.Map.Keys.{IsDistinct-from_apart}
use Rattle.std.proofs.lemmas.Map.Made.{AllPairs-from_IsDistinct}
use Rattle.std.proofs.lemmas.Map.Steps.{length-le_from_distinct_below}
use Rattle.std.proofs.lemmas.Option.{slice_get-get_or}
use Rattle.fst_base.proofs.Bools.{pair_eq, pair_itself, same_pair}
use Rattle.fst_base.proofs.Lists.{get-push}
use Rattle.fst_normed.specs.Candidates.{AreCandidates, IsThere}
use Rattle.fst_normed.specs.Closing.{IsAdded}

-- the pair that is stored is the one that was put there
pub stored : (keys : List (ℕ × ℕ)) (c : ℕ × ℕ) (at : ℕ) → (k : ℕ × ℕ) × (slice_get keys at ≡ Some k) × (pair_eq c k ≡ true) →
    slice_get keys at ≡ Some c
stored keys c at s = s.1 ∙ ap Some (sym (same_pair c s.0 s.2))

-- a key is added, unless it was there
pub added : (keys new : List (ℕ × ℕ)) (c : ℕ × ℕ) → new ≡ cond (list_any (pair_eq c) keys) keys (keys ++ c ∷ []) →
    IsAdded keys new c
added keys new c e =
    (elim (list_any (pair_eq c) keys) as (λ b. new ≡ cond b keys (keys ++ c ∷ []) → IsAdded keys new c) [
      | true ↦ λ e. subst (λ (z : List (ℕ × ℕ)). IsAdded keys z c) (sym e)
          (record { behind = ([], sym (append-nil keys)); only = λ d h. inl h })
      | false ↦ λ e. subst (λ (z : List (ℕ × ℕ)). IsAdded keys z c) (sym e) (record {
        behind = (c ∷ [], refl);
        only = λ d h. elim (get-push keys c d h.0 h.1) [ inl p ↦ inl (h.0, p) | inr p ↦ inr p.1 ];
      })
    ]) e

-- no two keys of a table are the same
pub once : (keys : List (ℕ × ℕ)) → IsDistinct pair_eq keys → AllPairs (λ c d. c ≢ d) keys
once keys h = AllPairs-from_IsDistinct (λ a b. (same_pair a b, λ e. subst (λ (z : ℕ × ℕ). pair_eq a z ≡ true) e (pair_itself a)))
    keys h

-- the place of a pair in a square of n rows
abbrev place : ℕ → ℕ × ℕ → ℕ
place n c = c.0 * n + c.1

-- pairs at one place are one
same_row : (n a b c d : ℕ) → b < n → d < n → a * n + b ≡ c * n + d → (a ≡ c) × (b ≡ d)
same_row n zero b zero d lb ld e = (refl, omega arith)
same_row n zero b (suc c) d lb ld e = absurd (grind arith)
same_row n (suc a) b zero d lb ld e = absurd (grind arith)
same_row n (suc a) b (suc c) d lb ld e =
    let less : a * n + b ≡ c * n + d = grind arith in
    let r = same_row n a b c d lb ld less in
    (ap suc r.0, r.1)

in_square : (n a b : ℕ) → a < n → b < n → a * n + b < n * n
in_square n a b la lb = grind arith

-- there are at most as many candidates as pairs of non-terminals
pub few_candidates : (n : ℕ) (norms : List (Option ℕ)) (cs : List (ℕ × ℕ)) → AreCandidates n norms cs → length cs ≤ n * n
few_candidates n norms cs are =
    let all = length-le_from_distinct_below (map (place n) cs) (n * n) apart (λ q h. any_below q (n * n) cs
    (λ c t. let i = are.each c t in in_square n c.0 c.1 i.first i.second) h) in
    let same = length-map cs (place n) in
    omega arith
  where
    any_below : (q m : ℕ) (cs : List (ℕ × ℕ)) → ((c : ℕ × ℕ) → IsThere cs c → place n c < m) →
        list_any (eqb q) (map (place n) cs) ≡ true → q < m
    any_below q m [] below h = absurd (cc h)
    any_below q m (c ∷ cs) below h = elim (eqb_tells q (place n c)) [
      | inl p ↦ subst (λ (k : ℕ). k < m) (sym p.1) (below c (0, refl))
      | inr p ↦ any_below q m cs (λ d t. below d (suc t.0, t.1))
          (sym (ap (λ b. b || list_any (eqb q) (map (place n) cs)) p.0) ∙ h)
    ]

    apart : IsDistinct eqb (map (place n) cs)
    apart = IsDistinct-from_apart eqb (map (place n) cs) (λ i j d lt within.
        let count = length-map cs (place n) in
        let ci = get_or cs i (0, 0) in
        let cj = get_or cs j (0, 0) in
        let ei : get_or (map (place n) cs) i d ≡ place n ci = get_or-map (place n) cs i (0, 0) d (omega arith) in
        let ej : get_or (map (place n) cs) j d ≡ place n cj = get_or-map (place n) cs j (0, 0) d (omega arith) in
        let ii = are.each ci (i, slice_get-get_or cs i (0, 0) (omega arith)) in
        let ij = are.each cj (j, slice_get-get_or cs j (0, 0) (omega arith)) in
        let other = are.once i j (0, 0) lt (omega arith) in
        elim (eqb_tells (get_or (map (place n) cs) i d) (get_or (map (place n) cs) j d)) [
          | inl p ↦
              let r = same_row n ci.0 ci.1 cj.0 cj.1 ii.second ij.second (sym ei ∙ p.1 ∙ ej) in
              absurd (other (λ k. (r.0 k, r.1 k)))
          | inr p ↦ p.0
        ])
