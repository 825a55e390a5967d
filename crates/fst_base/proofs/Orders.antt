-- The order of traces: shorter, or as long and less at the first difference.
use Rattle.std.proofs.Common.{◌≡◌, ℕ, ◌<◌, List, [], ◌∷◌, ◌++◌, length, refl, ◌∙◌, ap, arith, inl, inr, length-append}
use Rattle.std.specs.declared.cmp.Ordering.{Ordering}
use Rattle.std.specs.Ordering.{nat_cmp, ordering_then}
use Rattle.std.specs.declared.cmp.Ordering.TheVariants.{Less, Equal, Greater}
use Rattle.std.specs.Cmp.Lexicographic.{slice_cmp}
use Rattle.std.proofs.lemmas.Cmp.{nat_cmp_total, nat_list_cmp_total, tied_itself}
use Rattle.std.proofs.lemmas.Bool.Decides.{nat_tests}
use Rattle.fst_base.specs.Order.{IsBefore, IsRising}

-- what stands behind the first item of a rising list rises
pub rising_tail : {A : Type 0} (R : A → A → Ordering) (x : A) (xs : List A) → IsRising R (x ∷ xs) → IsRising R xs
rising_tail R x [] r = tt
rising_tail R x (y ∷ xs) r = r.1

less_trans : (r s t : List ℕ) → slice_cmp nat_cmp r s ≡ Less → slice_cmp nat_cmp s t ≡ Less → slice_cmp nat_cmp r t ≡ Less
less_trans = nat_list_cmp_total.trans

-- one trace before another
pub before_trans : (r s t : List ℕ) → IsBefore nat_cmp r s → IsBefore nat_cmp s t → IsBefore nat_cmp r t
before_trans r s t (inl p) (inl q) = inl (omega arith)
before_trans r s t (inl p) (inr q) = let e = q.0 in inl (omega arith)
before_trans r s t (inr p) (inl q) = let e = p.0 in inl (omega arith)
before_trans r s t (inr p) (inr q) = inr (p.0 ∙ q.0, less_trans r s t p.1 q.1)

-- no trace is before itself
pub before_irrefl : (s : List ℕ) → IsBefore nat_cmp s s → ⊥
before_irrefl s (inl p) = omega arith
before_irrefl s (inr p) = let e = tied_itself nat_list_cmp_total s in let f = p.1 in cc

-- what is less at a difference stays so whatever follows
less-append : (s t x y : List ℕ) → length s ≡ length t → slice_cmp nat_cmp s t ≡ Less → slice_cmp nat_cmp (s ++ x) (t ++ y) ≡ Less
less-append [] [] x y len l = cc
less-append [] (b ∷ t) x y len l = absurd (omega arith)
less-append (a ∷ s) [] x y len l = absurd (omega arith)
less-append (a ∷ s) (b ∷ t) x y len l =
    (elim (nat_cmp a b) as (λ o. ordering_then o (slice_cmp nat_cmp s t) ≡ Less →
    ordering_then o (slice_cmp nat_cmp (s ++ x) (t ++ y)) ≡ Less) [
      | Less ↦ λ l. refl
      | Equal ↦ λ l. less-append s t x y (omega arith) l
      | Greater ↦ λ l. cc
    ]) l

-- one more letter each keeps the order
pub before-snoc : (s t : List ℕ) (a b : ℕ) → IsBefore nat_cmp s t → IsBefore nat_cmp (s ++ a ∷ []) (t ++ b ∷ [])
before-snoc s t a b (inl p) = let e = length-append s (a ∷ []) in let f = length-append t (b ∷ []) in inl (omega arith)
before-snoc s t a b (inr p) =
    let e = length-append s (a ∷ []) in
    let f = length-append t (b ∷ []) in
    let q = p.0 in
    inr (omega arith, less-append s t (a ∷ []) (b ∷ []) p.0 p.1)

less-last : (s : List ℕ) (a b : ℕ) → nat_cmp a b ≡ Less → slice_cmp nat_cmp (s ++ a ∷ []) (s ++ b ∷ []) ≡ Less
less-last [] a b l = rw l refl
less-last (x ∷ s) a b l = ap (λ o. ordering_then o (slice_cmp nat_cmp (s ++ a ∷ []) (s ++ b ∷ []))) (tied_itself nat_cmp_total x)
    ∙ less-last s a b l

-- a lesser number
pub less_number : (a b : ℕ) → a < b → nat_cmp a b ≡ Less
less_number a b l = grind (arith, nat_tests)

-- a lesser last letter
pub before-last : (s : List ℕ) (a b : ℕ) → a < b → IsBefore nat_cmp (s ++ a ∷ []) (s ++ b ∷ [])
before-last s a b l =
    let e = length-append s (a ∷ []) in
    let f = length-append s (b ∷ []) in
    inr (omega arith, less-last s a b (less_number a b l))
