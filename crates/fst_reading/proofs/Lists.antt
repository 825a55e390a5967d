-- Lists that are put together in two ways.
use Rattle.std.proofs.Common.{◌≡◌, ℕ, suc, ◌≤◌, ◌<◌, List, [], ◌∷◌, ◌++◌, length, refl, ap, arith, max}
use Rattle.fst_reading.specs.Faults.{IsWithinLimit}

-- the first number over a limit stands at one place
pub one_first : (limit : ℕ) (xs ys : List ℕ) (n m : ℕ) (zs ws : List ℕ) → xs ++ n ∷ zs ≡ ys ++ m ∷ ws → IsWithinLimit limit xs →
    IsWithinLimit limit ys → limit < n → limit < m → length xs ≡ length ys
one_first limit [] [] n m zs ws e p q a b = refl
one_first limit [] (y ∷ ys) n m zs ws e p q a b = let head : n ≡ y = cc in absurd (omega (arith, head, q.0))
one_first limit (x ∷ xs) [] n m zs ws e p q a b = let head : x ≡ m = cc in absurd (omega (arith, head, p.0))
one_first limit (x ∷ xs) (y ∷ ys) n m zs ws e p q a b =
    let tail : xs ++ n ∷ zs ≡ ys ++ m ∷ ws = cc in
    ap suc (one_first limit xs ys n m zs ws tail p.1 q.1 a b)

-- a number over a limit stands behind those in front that aren't
pub first_behind : (limit : ℕ) (xs ys : List ℕ) (n : ℕ) (zs ws : List ℕ) → xs ++ n ∷ zs ≡ ys ++ ws → IsWithinLimit limit ys →
    limit < n → length ys ≤ length xs
first_behind limit xs [] n zs ws e q a = omega arith
first_behind limit [] (y ∷ ys) n zs ws e q a = let head : n ≡ y = cc in absurd (omega (arith, head, q.0))
first_behind limit (x ∷ xs) (y ∷ ys) n zs ws e q a =
    let tail : xs ++ n ∷ zs ≡ ys ++ ws = cc in
    omega (arith, first_behind limit xs ys n zs ws tail q.1 a)

-- no number over a limit stands among those that aren't
pub none_over : (limit : ℕ) (xs zs : List ℕ) (n : ℕ) → IsWithinLimit limit (xs ++ n ∷ zs) → limit < n → ⊥
none_over limit [] zs n q a = absurd (omega (arith, q.0))
none_over limit (x ∷ xs) zs n q a = none_over limit xs zs n q.1 a

-- the greatest of some numbers
abbrev pub most : List ℕ → ℕ
most [] = 0
most (n ∷ ns) = max n (most ns)

pub IsWithinLimit-most : (limit : ℕ) (ns : List ℕ) → most ns ≤ limit → IsWithinLimit limit ns
IsWithinLimit-most limit [] le = tt
IsWithinLimit-most limit (n ∷ ns) le = (omega arith, IsWithinLimit-most limit ns (omega arith))
