-- Lists: what stands where, and lists that are put together in two ways.
use Rattle.std.proofs.Common.{◌≡◌, ℕ, zero, suc, ◌<◌, List, [], ◌∷◌, ◌++◌, length, length-append, refl, sym, ap, ◌∙◌, arith, ◌⊎◌, inl, inr, Some}
use Rattle.std.specs.Prelude.{Contains, slice_get}

-- what stands in a list with one more at its end
pub get-push : {A : Type 0} (E : List A) (n e : A) (j : ℕ) → slice_get (E ++ n ∷ []) j ≡ Some e → (slice_get E j ≡ Some e) ⊎
    ((j ≡ length E) × (n ≡ e))
get-push [] n e zero h = inr (refl, (let f : n ≡ e = cc in f))
get-push [] n e (suc j) h = cc
get-push (x ∷ E) n e zero h = inl h
get-push (x ∷ E) n e (suc j) h = elim (get-push E n e j h) [
  | inl p ↦ inl p
  | inr p ↦ let q = p.0 in inr (omega arith, p.1)
]

-- what stood in it stays
pub get-kept : {A : Type 0} (E : List A) (n e : A) (j : ℕ) → slice_get E j ≡ Some e → slice_get (E ++ n ∷ []) j ≡ Some e
get-kept [] n e j h = cc
get-kept (x ∷ E) n e zero h = h
get-kept (x ∷ E) n e (suc j) h = get-kept E n e j h

-- the last one
pub get-last : {A : Type 0} (E : List A) (n : A) → slice_get (E ++ n ∷ []) (length E) ≡ Some n
get-last [] n = refl
get-last (x ∷ E) n = get-last E n

-- those in front
pub get-front : {A : Type 0} (E : List A) (n : A) (j : ℕ) → j < length E → slice_get (E ++ n ∷ []) j ≡ slice_get E j
get-front [] n j l = absurd (omega arith)
get-front (x ∷ E) n zero l = refl
get-front (x ∷ E) n (suc j) l = get-front E n j (omega arith)

-- a place within a list has an element
pub get_there : {A : Type 0} (E : List A) (k : ℕ) → k < length E → (x : A) × (slice_get E k ≡ Some x)
get_there [] k l = absurd (omega arith)
get_there (x ∷ E) zero l = (x, refl)
get_there (x ∷ E) (suc k) l = get_there E k (omega arith)

-- a list with one more is one longer
pub length-push : {A : Type 0} (E : List A) (n : A) → length (E ++ n ∷ []) ≡ suc (length E)
length-push E n = let e = length-append E (n ∷ []) in omega arith

-- lists as long as one another with the same item at each place are one
pub same_items : {A : Type 0} (xs ys : List A) → length xs ≡ length ys →
    ((k : ℕ) (x y : A) → slice_get xs k ≡ Some x → slice_get ys k ≡ Some y → x ≡ y) → xs ≡ ys
same_items [] [] len h = refl
same_items [] (y ∷ ys) len h = absurd (omega arith)
same_items (x ∷ xs) [] len h = absurd (omega arith)
same_items (x ∷ xs) (y ∷ ys) len h =
    let first : x ≡ y = h 0 x y refl refl in
    let rest : xs ≡ ys = same_items xs ys (omega arith) (λ k a b e f. h (suc k) a b e f) in
    λ i. first i ∷ rest i

-- a list is empty, or has a last item
pub snoc_view : {A : Type 0} (s : List A) → (s ≡ []) ⊎ ((t : List A) × (b : A) × (s ≡ t ++ b ∷ []))
snoc_view [] = inl refl
snoc_view (a ∷ s) = elim (snoc_view s) [
  | inl e ↦ inr ([], a, ap (λ x. a ∷ x) e)
  | inr p ↦ inr (a ∷ p.0, p.1, ap (λ x. a ∷ x) p.2)
]

-- the first item is in the list
pub contains_head : {A : Type 0} (xs : List A) (a b : A) → b ≡ a → Contains (b ∷ xs) a
contains_head xs a b e = (0, omega arith, e)

-- so is each item behind it
pub contains_tail : {A : Type 0} (xs : List A) (a b : A) → Contains xs a → Contains (b ∷ xs) a
contains_tail xs a b h = (suc h.0, omega (arith, h.1), h.2)

-- what is in a list is its first item or behind it
pub from_contains : {A : Type 0} (xs : List A) (a b : A) → Contains (b ∷ xs) a → (b ≡ a) ⊎ Contains xs a
from_contains xs a b (zero, lt, e) = inl e
from_contains xs a b (suc k, lt, e) = inr (k, omega arith, e)

-- nothing is in the empty list
pub contains_none : {A : Type 0} (a : A) → Contains [] a → ⊥
contains_none a h = absurd (omega (arith, h.1))

-- two ways to cut one list
pub data Cuts {T : Type 0} (p s q t : List T) : Type 0 where
  shorter : (k : T) (m : List T) → q ≡ p ++ k ∷ m → s ≡ k ∷ m ++ t → Cuts p s q t
  same : p ≡ q → s ≡ t → Cuts p s q t
  longer : (k : T) (m : List T) → p ≡ q ++ k ∷ m → t ≡ k ∷ m ++ s → Cuts p s q t

-- what two ways to cut one list have to do with each other
pub cuts : {T : Type 0} (p s q t : List T) → p ++ s ≡ q ++ t → Cuts p s q t
cuts [] s [] t e = same refl e
cuts [] s (k ∷ q) t e = shorter k q refl e
cuts (k ∷ p) s [] t e = longer k p refl (sym e)
cuts (k ∷ p) s (c ∷ q) t e =
    let head : k ≡ c = cc in
    let tail : p ++ s ≡ q ++ t = cc in
    of_tail head (cuts p s q t tail)
  where
    of_tail : k ≡ c → Cuts p s q t → Cuts (k ∷ p) s (c ∷ q) t
    of_tail h (shorter j m a b) = shorter j m (ap (λ w. c ∷ w) a ∙ ap (λ z. z ∷ (p ++ j ∷ m)) (sym h)) b
    of_tail h (same a b) = same (ap (λ z. z ∷ p) h ∙ ap (λ w. c ∷ w) a) b
    of_tail h (longer j m a b) = longer j m (ap (λ z. z ∷ p) h ∙ ap (λ w. c ∷ w) a) b

-- cuts at one place are one cut
pub one_cut : {T : Type 0} (p s q t : List T) → p ++ s ≡ q ++ t → length p ≡ length q → (p ≡ q) × (s ≡ t)
one_cut [] s [] t e n = (refl, e)
one_cut [] s (c ∷ q) t e n = absurd (omega (arith, n))
one_cut (k ∷ p) s [] t e n = absurd (omega (arith, n))
one_cut (k ∷ p) s (c ∷ q) t e n =
    let head : k ≡ c = cc in
    let tail : p ++ s ≡ q ++ t = cc in
    let rest = one_cut p s q t tail (omega (arith, n)) in
    (ap (λ z. z ∷ p) head ∙ ap (λ w. c ∷ w) rest.0, rest.1)
