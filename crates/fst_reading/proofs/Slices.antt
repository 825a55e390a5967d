-- A part of a list of tokens.
use Rattle.std.proofs.Common.{◌≡◌, ℕ, zero, suc, ◌-◌, ◌≤◌, min, List, [], ◌∷◌, length, map, take, drop, refl, arith}

-- what stands from one token on up to another, and what is made of each
pub slice_is : {A B : Type 0} (f : A → B) (from last : ℕ) (xs : List A) → last ≤ length xs →
    map f (take (last - min from last) (drop (min from last) xs)) ≡ drop from (map f (take last xs))
slice_is f zero last xs le = let e : min 0 last ≡ 0 = omega arith in rw e (let g : last - 0 ≡ last = omega arith in rw g refl)
slice_is f (suc from) zero xs le = let e : min (suc from) 0 ≡ 0 = omega arith in rw e refl
slice_is f (suc from) (suc last) [] le = absurd (omega arith)
slice_is f (suc from) (suc last) (x ∷ xs) le =
    let e : min (suc from) (suc last) ≡ suc (min from last) = omega arith in
    let g : suc last - suc (min from last) ≡ last - min from last = omega arith in
    rw (e, g) (slice_is f from last xs (omega arith))
