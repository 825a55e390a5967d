-- Sums over pairs, each once.
use Rattle.std.proofs.Common.{◌≡◌, ◌≢◌, ℕ, zero, suc, ◌+◌, ◌≤◌, List, [], ◌∷◌, ◌++◌, length, refl, sym, ◌∙◌, ap, subst, arith, Some}
use Rattle.std.specs.Prelude.{slice_get, sum_by}
use Rattle.std.proofs.lemmas.List.Sums.{sum_by-cons, sum_by-append}
use Rattle.fst_basis.specs.declared.proof.Pair.{Pair}
use Rattle.fst_expand.specs.Good.{AreDistinct, Each, IsIn}

-- a list with a pair at some place
record IsParted (pairs : List Pair) (b : Pair) : Type 0 where
  front : List Pair
  rest : List Pair
  parts : pairs ≡ front ++ (b ∷ rest)

parted : (pairs : List Pair) (at : ℕ) (b : Pair) → slice_get pairs at ≡ Some b → IsParted pairs b
parted [] at b e = absurd (cc e)
parted (c ∷ pairs) zero b e = record { front = []; rest = pairs; parts = ap (λ (z : Pair). z ∷ pairs) (let f : c ≡ b = cc in f) }
parted (c ∷ pairs) (suc at) b e = let p = parted pairs at b e in
    record { front = c ∷ p.front; rest = p.rest; parts = ap (λ (z : List Pair). c ∷ z) p.parts }

-- another pair of the list is one of those around it
others : (front rest : List Pair) (b c : Pair) → c ≢ b → IsIn c (front ++ (b ∷ rest)) → IsIn c (front ++ rest)
others [] rest b c ne (zero, e) = absurd (ne (let f : b ≡ c = cc in sym f))
others [] rest b c ne (suc at, e) = (at, e)
others (d ∷ front) rest b c ne (zero, e) = (0, e)
others (d ∷ front) rest b c ne (suc at, e) = let h = others front rest b c ne (at, e) in (suc h.0, h.1)

-- a sum over pairs, each once, is at most that over a list that has them all
pub sum_within : (f : Pair → ℕ) (some all : List Pair) → AreDistinct some → Each (λ b. IsIn b all) some →
    sum_by f some ≤ sum_by f all
sum_within f [] all once in_all = omega arith
sum_within f (b ∷ some) all once in_all =
    let first = in_all 0 b refl in
    let p = parted all first.0 b first.1 in
    let later : Each (λ c. IsIn c (p.front ++ p.rest)) some = λ at c e.
    others p.front p.rest b c (λ same. absurd (let twice : suc at ≡ 0 = once (suc at) 0 b (e ∙ ap Some same) refl in omega arith))
    (subst (IsIn c) p.parts (in_all (suc at) c e)) in
    let rest = sum_within f some (p.front ++ p.rest)
    (λ i j c e g. let h : suc i ≡ suc j = once (suc i) (suc j) c e g in omega arith) later in
    let a = sum_by-cons f b some in
    let whole : sum_by f all ≡ sum_by f p.front + sum_by f (b ∷ p.rest) = ap (sum_by f) p.parts
    ∙ sum_by-append f p.front (b ∷ p.rest) in
    let c = sum_by-cons f b p.rest in
    let d = sum_by-append f p.front p.rest in
    omega arith

-- and so it is with their number and a sum
pub size_within : (f : Pair → ℕ) (some all : List Pair) → AreDistinct some → Each (λ b. IsIn b all) some →
    length some + sum_by f some ≤ length all + sum_by f all
size_within f some all once in_all =
    let h = sum_within (λ b. suc (f b)) some all once in_all in
    let a = with_size some in
    let b = with_size all in
    omega arith
  where
    with_size : (pairs : List Pair) → sum_by (λ b. suc (f b)) pairs ≡ length pairs + sum_by f pairs
    with_size [] = omega arith
    with_size (c ∷ pairs) =
        let a = sum_by-cons (λ b. suc (f b)) c pairs in
        let b = sum_by-cons f c pairs in
        let d = with_size pairs in
        omega arith

-- what a pair of the list has is at most the sum
pub sum_at : (f : Pair → ℕ) (bs : List Pair) (at : ℕ) (b : Pair) → slice_get bs at ≡ Some b → f b ≤ sum_by f bs
sum_at f [] at b e = absurd (cc e)
sum_at f (c ∷ bs) zero b e = let same : f c ≡ f b = ap f (let g : c ≡ b = cc in g) in let s = sum_by-cons f c bs in omega arith
sum_at f (c ∷ bs) (suc at) b e = let r = sum_at f bs at b e in let s = sum_by-cons f c bs in omega arith
