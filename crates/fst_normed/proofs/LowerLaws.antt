-- Steps that lower norms, one after the other.
use Rattle.std.proofs.Common.{◌≡◌, ◌+◌, ◌-◌, ◌<◌, ◌≤◌, ℕ, zero, suc, List, [], ◌∷◌, ◌++◌, length, append_assoc, refl, sym, ◌∙◌, ap, arith, Option, All}
use Rattle.std.proofs.lemmas.List.Elements.{All-append, All-cons, All-head, All-nil, All-tail}
use Rattle.fst_words.specs.Words.{WordBelow}
use Rattle.fst_norms.specs.Bounds.{total}
use Rattle.fst_norms.proofs.Laws.{total-append}
use Rattle.fst_normed.specs.Candidates.{residual}
use Rattle.fst_norms.specs.Lowering.{LowerByOne, lowered, lowered_to}
use Rattle.fst_norms.specs.Bounds.{norm_of}

-- nothing is left of nothing
pub lowered_nothing : (words : List (List ℕ)) (k : ℕ) → lowered words k [] ≡ []
lowered_nothing words zero = refl
lowered_nothing words (suc k) = lowered_nothing words k

-- lowered words stay in range
pub lowered_below : (words : List (List ℕ)) → All (WordBelow (length words)) words →
    (k : ℕ) (u : List ℕ) → WordBelow (length words) u → WordBelow (length words) (lowered words k u)
lowered_below words all zero u h = h
lowered_below words all (suc k) [] h = lowered_below words all k [] h
lowered_below words all (suc k) (n ∷ u) h =
    let lt = All-head (λ k. k < length words) n u h in
    lowered_below words all k (lowered_to words n ++ u)
    (All-append (λ k. k < length words) (lowered_to words n) u (all n [] lt) (All-tail (λ k. k < length words) n u h))

pub residual_below : (norms : List (Option ℕ)) (words : List (List ℕ)) → All (WordBelow (length words)) words →
    (x y : ℕ) → y < length words →
    WordBelow (length words) (residual norms words x y)
residual_below norms words all x y lt = lowered_below words all (norm_of norms x) (y ∷ [])
    (All-cons (λ k. k < length words) y [] lt (All-nil (λ k. k < length words)))

module _ (norms : List (Option ℕ)) (words : List (List ℕ)) (all : All (WordBelow (length words)) words)
    (one : LowerByOne norms words) where
  -- their norm is lower by the number of steps
  lowered_total : (k : ℕ) (u : List ℕ) → WordBelow (length words) u → k ≤ total norms u →
      total norms (lowered words k u) + k ≡ total norms u
  lowered_total zero u h le = omega arith
  lowered_total (suc k) [] h le = absurd (omega arith)
  lowered_total (suc k) (n ∷ u) h le =
      let lt = All-head (λ k. k < length words) n u h in
      let v = lowered_to words n in
      let is = one n lt in
      let sum = total-append norms v u in
      let r = lowered_total k (v ++ u) (All-append
      (λ k. k < length words) v u (all n [] lt) (All-tail (λ k. k < length words) n u h)) (omega arith) in
      omega arith

  -- so is that of what Y becomes by as many steps as the norm of X
  pub residual_total : (x y : ℕ) → y < length words → norm_of norms x ≤ norm_of norms y →
      total norms (residual norms words x y) + norm_of norms x ≡ norm_of norms y
  residual_total x y lt le =
      let r = lowered_total (norm_of norms x) (y ∷ [])
      (All-cons (λ k. k < length words) y [] lt (All-nil (λ k. k < length words))) (omega arith) in
      omega arith

  -- a word in front is dropped by as many steps as its norm
  pub skipped : (j : ℕ) (v w : List ℕ) → WordBelow (length words) v → total norms v ≤ j →
      lowered words j (v ++ w) ≡ lowered words (j - total norms v) w
  skipped j [] w h le = ap (λ (k : ℕ). lowered words k w) (let e : j ≡ j - 0 = omega arith in e)
  skipped zero (n ∷ v) w h le = absurd (let p = one n (All-head (λ k. k < length words) n v h) in omega arith)
  skipped (suc j) (n ∷ v) w h le =
      let lt = All-head (λ k. k < length words) n v h in
      let low = lowered_to words n in
      let is = one n lt in
      let sum = total-append norms low v in
      let below = All-append (λ k. k < length words) low v (all n [] lt) (All-tail (λ k. k < length words) n v h) in
      ap (lowered words j) (sym (append_assoc low v w)) ∙ skipped j (low ++ v) w below (omega arith)
      ∙ ap (λ (k : ℕ). lowered words k w) (let e : j - total norms (low ++ v) ≡ suc j - total norms (n ∷ v) = omega arith in e)

  -- a head whose norm is at most the steps is dropped by as many as it is
  pub head_skipped : (steps n : ℕ) (w : List ℕ) → n < length words → norm_of norms n ≤ steps →
      lowered words (steps - norm_of norms n) w ≡ lowered words steps (n ∷ w)
  head_skipped steps n w lt le =
      sym (skipped steps (n ∷ []) w (All-cons (λ k. k < length words) n [] lt (All-nil (λ k. k < length words))) (omega arith)
      ∙ ap (λ (k : ℕ). lowered words k w) (let e : steps - total norms (n ∷ []) ≡ steps - norm_of norms n = omega arith in e))
