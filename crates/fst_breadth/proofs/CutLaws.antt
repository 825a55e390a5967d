-- Pruning a word is cutting its front in front of what is pruned behind.
use Rattle.std.proofs.Common.{◌≡◌, ℕ, List, [], ◌∷◌, ◌++◌, refl, sym, ◌∙◌, ap, subst, Bool, true, false, drop, Some, append-nil, ◌<◌}
use Rattle.std.specs.Prelude.{option_map, if◌then◌else◌, Option}
use Rattle.std.proofs.lemmas.List.Elements.{All-head, All-tail, All-cons, All-nil}
use Rattle.fst_words.specs.Marks.{is_marked}
use Rattle.fst_words.specs.Words.{Productions, rule_of, WordBelow, first_row}
use Rattle.fst_norms.specs.Pruned.{pruned_word}
use Rattle.fst_words.specs.Marks.{cut}
use Rattle.fst_breadth.specs.State.{pruned_step}

-- pruning a word in front of another is cutting it in front of the pruned other
pub pruned-append : (m : List Bool) (v w : List ℕ) → pruned_word m (v ++ w) ≡ cut m v (pruned_word m w)
pruned-append m [] w = refl
pruned-append m (n ∷ v) w = ap (λ (z : List ℕ). n ∷ (if is_marked m n then [] else z)) (pruned-append m v w)

-- a word that is cut with nothing behind it is pruned
pub cut-nil : (m : List Bool) (v : List ℕ) → cut m v [] ≡ pruned_word m v
cut-nil m v = sym (pruned-append m v []) ∙ ap (pruned_word m) (append-nil v)

-- what is behind the first non-terminal of a pruned word is pruned
tail_pruned : (m : List Bool) (n : ℕ) (w : List ℕ) → pruned_word m (n ∷ w) ≡ n ∷ w → pruned_word m w ≡ w
tail_pruned m n w e =
    (elim (is_marked m n) as (λ b. n ∷ (if b then [] else pruned_word m w) ≡ n ∷ w → pruned_word m w ≡ w) [
      | true ↦ λ f. let none : [] ≡ w = cc in subst (λ (z : List ℕ). pruned_word m z ≡ z) none refl
      | false ↦ λ f. cc
    ]) e

-- a pruned word moves by a letter as its rule's word is cut in front of what is behind
pub step_cut : (g : Productions) (m : List Bool) (x v : List ℕ) (a : ℕ) → pruned_word m x ≡ x →
    rule_of (first_row g x) a ≡ Some v → pruned_step g m x a ≡ Some (cut m v (drop 1 x))
step_cut g m [] v a e rule = cc
step_cut g m (n ∷ w) v a e rule =
    ap (λ (o : Option (List ℕ)). option_map (pruned_word m) (option_map (λ (z : List ℕ). z ++ w) o)) rule
    ∙ ap Some (pruned-append m v w ∙ ap (cut m v) (tail_pruned m n w e))

-- what is cut stays in range
pub cut_in_range : (n : ℕ) (m : List Bool) (v w : List ℕ) → WordBelow n v → WordBelow n w → WordBelow n (cut m v w)
cut_in_range n m [] w hv hw = hw
cut_in_range n m (k ∷ v) w hv hw =
    elim (is_marked m k) as (λ b. WordBelow n (k ∷ (if b then [] else cut m v w))) [
      | true ↦ All-cons (λ k. k < n) k [] (All-head (λ k. k < n) k v hv) (All-nil (λ k. k < n))
      | false ↦ All-cons (λ k. k < n) k (cut m v w) (All-head (λ k. k < n) k v hv)
          (cut_in_range n m v w (All-tail (λ k. k < n) k v hv) hw)
    ]

-- and so does what is behind the first non-terminal
pub rest_in_range : (n : ℕ) (w : List ℕ) → WordBelow n w → WordBelow n (drop 1 w)
rest_in_range n [] h = h
rest_in_range n (k ∷ w) h = All-tail (λ k. k < n) k w h
