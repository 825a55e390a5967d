-- Items of lists by their places.
use Rattle.std.proofs.Common.{◌≡◌, All, ℕ, zero, suc, ◌+◌, ◌<◌, List, [], ◌∷◌, ◌++◌, length, take, drop, add-one, sym, ◌∙◌, ap, subst, arith, Some, get_or}
use Rattle.std.specs.Prelude.{slice_get}
use Rattle.std.proofs.lemmas.Option.{get_or_from_slice_get, slice_get_within}
use Rattle.fst_base.proofs.Lists.{get_there}

-- an item at a place
pub got : {A : Type 0} (xs : List A) (i : ℕ) (r : A) → i < length xs → r ≡ get_or xs i r → slice_get xs i ≡ Some r
got xs i r lt e = let t = get_there xs i lt in t.1 ∙ ap Some (sym (get_or_from_slice_get xs i t.0 r t.1) ∙ sym e)

pub read_at : {A : Type 0} (xs : List A) (i : ℕ) (d : A) → i < length xs → slice_get xs i ≡ Some (get_or xs i d)
read_at xs i d lt = let t = get_there xs i lt in t.1 ∙ ap Some (sym (get_or_from_slice_get xs i t.0 d t.1))

-- there is one item at a place
pub one_item : {A : Type 0} (xs : List A) (i : ℕ) (r q : A) → slice_get xs i ≡ Some r → slice_get xs i ≡ Some q → r ≡ q
one_item xs i r q e f = let g : Some r ≡ Some q = sym e ∙ f in cc

-- the first items, with the next one
pub taken : {A : Type 0} (xs : List A) (at : ℕ) (b : A) → slice_get xs at ≡ Some b → take (at + 1) xs ≡ take at xs ++ b ∷ []
taken xs at b e = rw add-one (next xs at b e)
  where
    next : {A : Type 0} (xs : List A) (at : ℕ) (b : A) → slice_get xs at ≡ Some b → take (suc at) xs ≡ take at xs ++ b ∷ []
    next [] at b e = absurd (cc e)
    next (c ∷ xs) zero b e = ap (λ z. z ∷ []) (let f : c ≡ b = cc in f)
    next (c ∷ xs) (suc at) b e = ap (λ z. c ∷ z) (next xs at b e)

-- an item of the first ones
pub get_taken : {A : Type 0} (xs : List A) (n at : ℕ) (b : A) → slice_get (take n xs) at ≡ Some b → (slice_get xs at ≡ Some b) ×
    (at < n)
get_taken [] zero at b e = absurd (cc e)
get_taken [] (suc n) at b e = absurd (cc e)
get_taken (c ∷ xs) zero at b e = absurd (cc e)
get_taken (c ∷ xs) (suc n) zero b e = (e, omega arith)
get_taken (c ∷ xs) (suc n) (suc at) b e = let p = get_taken xs n at b e in let lt = p.1 in (p.0, omega arith)

-- the items before a place, the one there, and those behind it
pub parted : {A : Type 0} (xs : List A) (at : ℕ) (b : A) → slice_get xs at ≡ Some b → xs ≡ take at xs ++ (b ∷ drop (suc at) xs)
parted [] at b e = absurd (cc e)
parted (c ∷ xs) zero b e = ap (λ z. z ∷ xs) (let f : c ≡ b = cc in f)
parted (c ∷ xs) (suc at) b e = ap (λ z. c ∷ z) (parted xs at b e)

-- what holds of all items holds of one
pub all_at : {A : Type 0} (P : A → Type 0) (xs : List A) (at : ℕ) (x : A) → All P xs → slice_get xs at ≡ Some x → P x
all_at P xs at x h e = subst P (get_or_from_slice_get xs at x x e) (h at x (slice_get_within xs at x e))
