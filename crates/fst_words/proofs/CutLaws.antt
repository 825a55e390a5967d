-- A word in front of another, cut behind the first marked non-terminal.
use Rattle.std.proofs.Common.{◌≡◌, ℕ, ◌<◌, List, [], ◌∷◌, ◌++◌, length, refl, ◌∙◌, ap, arith, Bool, true, false, zero, suc, take}
use Rattle.std.specs.Prelude.{if◌then◌else◌, slice_index_or}
use Rattle.fst_words.specs.Marks.{is_marked}
use Rattle.fst_words.specs.Marks.{cut}

-- where nothing is marked, nothing is cut
pub cut_none : (m : List Bool) (v w : List ℕ) →
    ((k : ℕ) → k < length v → is_marked m (slice_index_or v k 0) ≡ false) → cut m v w ≡ v ++ w
cut_none m [] w h = refl
cut_none m (n ∷ v) w h = ap (λ (b : Bool). n ∷ (if b then [] else cut m v w)) (h 0 (omega arith)) ∙ ap
    (λ (z : List ℕ). n ∷ z) (cut_none m v w (λ k l. h (suc k) (omega arith)))

-- where one is marked and none before it, what follows it is
pub cut_at : (m : List Bool) (v w : List ℕ) (i : ℕ) → i < length v →
    ((k : ℕ) → k < i → is_marked m (slice_index_or v k 0) ≡ false)
    → is_marked m (slice_index_or v i 0) ≡ true → cut m v w ≡ take (suc i) v ++ []
cut_at m [] w i l h e = absurd (omega arith)
cut_at m (n ∷ v) w zero l h e = ap (λ (b : Bool). n ∷ (if b then [] else cut m v w)) e
cut_at m (n ∷ v) w (suc i) l h e = ap (λ (b : Bool). n ∷ (if b then [] else cut m v w)) (h 0 (omega arith)) ∙ ap
    (λ (z : List ℕ). n ∷ z) (cut_at m v w i (omega arith) (λ k l. h (suc k) (omega arith)) e)
