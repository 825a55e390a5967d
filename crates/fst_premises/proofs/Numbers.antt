-- Types at numbers.
use Rattle.std.proofs.Common.{◌≡◌, ◌∙◌, ◌+◌, ◌<◌, ℕ, zero, suc, List, [], ◌∷◌, Some, drop, get_or, length, slice_get, refl, ap, arith}
use Rattle.fst_types.specs.Tree.{Tree}
use Rattle.fst_derivations.specs.Parts.{AreAt}

-- types at numbers: the i-th one, and those behind it
pub at_number : (types : List Tree) (ks : List ℕ) (ts : List Tree) (i d : ℕ) → AreAt types ks ts → i < length ks →
    (t : Tree) × (slice_get types (get_or ks i d) ≡ Some t) × (drop i ts ≡ t ∷ drop (i + 1) ts)
at_number types [] ts i d h l = absurd (omega (arith, l))
at_number types (k ∷ ks) [] i d h l = absurd h
at_number types (k ∷ ks) (t ∷ ts) zero d h l = (t, h.0, refl)
at_number types (k ∷ ks) (t ∷ ts) (suc i) d h l =
    let r = at_number types ks ts i d h.1 (omega (arith, l)) in
    let e : suc (i + 1) ≡ suc i + 1 = omega arith in
    (r.0, r.1, r.2 ∙ ap (λ n. r.0 ∷ drop n (t ∷ ts)) e)

-- there are as many types as numbers
pub numbers_long : (types : List Tree) (ks : List ℕ) (ts : List Tree) → AreAt types ks ts → length ts ≡ length ks
numbers_long types [] [] h = refl
numbers_long types [] (t ∷ ts) h = absurd h
numbers_long types (k ∷ ks) [] h = absurd h
numbers_long types (k ∷ ks) (t ∷ ts) h = ap suc (numbers_long types ks ts h.1)
