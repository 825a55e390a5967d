-- A text is cut at a byte in one way.
use Rattle.std.proofs.Common.{◌≡◌, ◌≢◌, ℕ, List, [], ◌∷◌, ◌++◌, refl}
use Rattle.std.specs.Prelude.{All}
use Rattle.std.proofs.lemmas.List.Elements.{All-nil, All-cons, All-head, All-tail, All-append}
use Rattle.fst_cert.specs.Texts.{IsEnd}

-- the byte stands nowhere in the text
abbrev pub IsFree : ℕ → List ℕ → Type 0
IsFree c bs = All (λ b. b ≢ c) bs

pub free_nil : (c : ℕ) → IsFree c []
free_nil c = All-nil (λ b. b ≢ c)

pub free_cons : (c b : ℕ) (bs : List ℕ) → b ≢ c → IsFree c bs → IsFree c (b ∷ bs)
free_cons c = All-cons (λ b. b ≢ c)

pub free_append : (c : ℕ) (x y : List ℕ) → IsFree c x → IsFree c y → IsFree c (x ++ y)
free_append c = All-append (λ b. b ≢ c)

-- What stands in front of a byte's first place, and what stands from there on, is the same in each such cut of a text.
pub cut_before : (c : ℕ) (x y u v : List ℕ) → IsFree c x → IsFree c u → IsEnd c y → IsEnd c v → x ++ y ≡ u ++ v →
    (x ≡ u) × (y ≡ v)
cut_before c [] y [] v left right one other e = (refl, e)
cut_before c [] [] (b ∷ u) v left right one other e = absurd (cc e)
cut_before c [] (a ∷ y) (b ∷ u) v left right one other e = absurd (All-head (λ b. b ≢ c) b u right (cc))
cut_before c (a ∷ x) y [] [] left right one other e = absurd (cc e)
cut_before c (a ∷ x) y [] (b ∷ v) left right one other e = absurd (All-head (λ b. b ≢ c) a x left (cc))
cut_before c (a ∷ x) y (b ∷ u) v left right one other e =
    let h = cut_before c x y u v (All-tail (λ b. b ≢ c) a x left) (All-tail (λ b. b ≢ c) b u right) one other (cc) in
    (cc (h.0), h.1)

-- so it is with what stands in front of the byte, and what stands behind it
pub cut_around : (c : ℕ) (x y u v : List ℕ) → IsFree c x → IsFree c u → x ++ c ∷ y ≡ u ++ c ∷ v → (x ≡ u) × (y ≡ v)
cut_around c x y u v left right e =
    let h = cut_before c x (c ∷ y) u (c ∷ v) left right refl refl e in
    (h.0, cc (h.1))

-- a text in which the byte stands nowhere has no cut
pub no_cut : (c : ℕ) (bs x y : List ℕ) → IsFree c bs → bs ≡ x ++ c ∷ y → ⊥
no_cut c [] [] y free e = cc e
no_cut c [] (a ∷ x) y free e = cc e
no_cut c (b ∷ bs) [] y free e = All-head (λ b. b ≢ c) b bs free (cc)
no_cut c (b ∷ bs) (a ∷ x) y free e = no_cut c bs x y (All-tail (λ b. b ≢ c) b bs free) (cc)
