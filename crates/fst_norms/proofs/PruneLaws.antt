-- Unnormed sets, and what pruning keeps.
use Rattle.std.proofs.Common.{◌≡◌, ℕ, ◌<◌, List, [], ◌∷◌, ◌++◌, length, Option, Some, None, Bool, true, false, refl, sym, ◌∙◌, ap, arith, ◌||◌, cond, subst, zero, suc, append-nil}
use Rattle.std.specs.Prelude.{option_and_then, option_map, is_none, map, IsSome}
use Rattle.std.proofs.lemmas.List.Elements.{All-head, All-tail, All-cons, All-nil}
use Rattle.fst_words.proofs.Laws.{row_in_range}
use Rattle.fst_words.specs.Words.{Productions, row_of, rule_of, step, after, WordBelow, InRange}
use Rattle.fst_base.specs.Agreement.{HaveSameTraces}
use Rattle.fst_norms.specs.Norms.{Empties, HasNoNorm, HasNorm, IsNormOrNone}
use Rattle.fst_norms.specs.Bounds.{bound_at}
use Rattle.fst_words.specs.Marks.{is_marked, has_marked, IsUnnormedSet}
use Rattle.fst_norms.specs.Pruned.{pruned_word}
use Rattle.fst_norms.proofs.NormLaws.{Empties-append, after_rule}

has_marked-append_l : (m : List Bool) (v w : List ℕ) → has_marked m v ≡ true → has_marked m (v ++ w) ≡ true
has_marked-append_l m [] w e = cc
has_marked-append_l m (n ∷ v) w e =
    (elim (is_marked m n) as (λ b. (b || has_marked m v) ≡ true → (b || has_marked m (v ++ w)) ≡ true) [
      | true ↦ λ e. refl
      | false ↦ λ e. has_marked-append_l m v w e
    ]) e

has_marked-append_r : (m : List Bool) (v w : List ℕ) → has_marked m w ≡ true → has_marked m (v ++ w) ≡ true
has_marked-append_r m [] w e = e
has_marked-append_r m (n ∷ v) w e =
    elim (is_marked m n) as (λ b. (b || has_marked m (v ++ w)) ≡ true) [
      | true ↦ refl
      | false ↦ has_marked-append_r m v w e
    ]

-- what stands behind a marked letter is cut
pruned-append_marked : (m : List Bool) (x u v : List ℕ) → has_marked m x ≡ true → pruned_word m (x ++ u) ≡ pruned_word m (x ++ v)
pruned-append_marked m [] u v e = cc
pruned-append_marked m (n ∷ x) u v e = ap (λ (t : List ℕ). n ∷ t) (
    (elim (is_marked m n) as (λ b. (b || has_marked m x) ≡ true →
    cond b [] (pruned_word m (x ++ u)) ≡ cond b [] (pruned_word m (x ++ v))) [
      | true ↦ λ e. refl
      | false ↦ λ e. pruned-append_marked m x u v e
    ]) e)

pruned-append_same : (m : List Bool) (x u v : List ℕ) → pruned_word m u ≡ pruned_word m v →
    pruned_word m (x ++ u) ≡ pruned_word m (x ++ v)
pruned-append_same m [] u v e = e
pruned-append_same m (n ∷ x) u v e = ap (λ (t : List ℕ). n ∷ cond (is_marked m n) [] t) (pruned-append_same m x u v e)

pub pruned-pruned : (m : List Bool) (w : List ℕ) → pruned_word m (pruned_word m w) ≡ pruned_word m w
pruned-pruned m [] = refl
pruned-pruned m (n ∷ w) = ap (λ (t : List ℕ). n ∷ t) (
    elim (is_marked m n) as (λ b. cond b [] (pruned_word m (cond b [] (pruned_word m w))) ≡ cond b [] (pruned_word m w)) [
      | true ↦ refl
      | false ↦ pruned-pruned m w
    ])

-- a pruned word has no other non-terminals
pub pruned_in_range : (n : ℕ) (m : List Bool) (w : List ℕ) → WordBelow n w → WordBelow n (pruned_word m w)
pruned_in_range n m [] h = h
pruned_in_range n m (k ∷ w) h =
    elim (is_marked m k) as (λ b. WordBelow n (k ∷ cond b [] (pruned_word m w))) [
      | true ↦ All-cons (λ k. k < n) k [] (All-head (λ k. k < n) k w h) (All-nil (λ k. k < n))
      | false ↦ All-cons (λ k. k < n) k (pruned_word m w) (All-head (λ k. k < n) k w h)
          (pruned_in_range n m w (All-tail (λ k. k < n) k w h))
    ]

-- words that are pruned to one lead to words that are pruned to one
pub after_pruned_same : (g : Productions) (m : List Bool) → IsUnnormedSet g m →
    (u v s : List ℕ) → pruned_word m u ≡ pruned_word m v
    → option_map (pruned_word m) (after g u s) ≡ option_map (pruned_word m) (after g v s)
after_pruned_same g m set u v [] e = ap Some e
after_pruned_same g m set [] [] (a ∷ s) e = refl
after_pruned_same g m set [] (k ∷ v) (a ∷ s) e = cc
after_pruned_same g m set (n ∷ u) [] (a ∷ s) e = cc
after_pruned_same g m set (n ∷ u) (k ∷ v) (a ∷ s) e =
    let head : n ≡ k = cc in
    let tail : cond (is_marked m n) [] (pruned_word m u) ≡ cond (is_marked m n) [] (pruned_word m v) =
    (let t : cond (is_marked m n) [] (pruned_word m u) ≡ cond (is_marked m k) [] (pruned_word m v) = cc in
    rw head (rw head at t)) in
    let joined = λ (x : List ℕ) (r : rule_of (row_of g n) a ≡ Some x). (let p : pruned_word m (x ++ u) ≡ pruned_word m (x ++ v) =
    (elim (is_marked m n) as (λ b. is_marked m n ≡ b → cond b [] (pruned_word m u) ≡ cond b [] (pruned_word m v) →
    pruned_word m (x ++ u) ≡ pruned_word m (x ++ v)) [
      | true ↦ λ is t. pruned-append_marked m x u v (set n a x is r)
      | false ↦ λ is t. pruned-append_same m x u v t
    ]) refl tail in p) in
    let R : ℕ → Type 0 = λ k. option_map (pruned_word m) (after g (n ∷ u) (a ∷ s)) ≡ option_map (pruned_word m)
    (after g (k ∷ v) (a ∷ s)) in
    subst R head (
    (elim (rule_of (row_of g n) a) as (λ o. rule_of (row_of g n) a ≡ o →
    option_map (pruned_word m) (option_and_then (λ x. after g x s) (option_map (λ x. x ++ u) o)) ≡ option_map (pruned_word m)
    (option_and_then (λ x. after g x s) (option_map (λ x. x ++ v) o))) [
      | None ↦ λ r. refl
      | Some x ↦ λ r. after_pruned_same g m set (x ++ u) (x ++ v) s (joined x r)
    ]) refl)

same_there : {A B : Type 0} (f : A → B) (o p : Option A) → option_map f o ≡ option_map f p → IsSome o → IsSome p
same_there f None p e h = absurd (cc h)
same_there f (Some x) None e h = cc
same_there f (Some x) (Some y) e h = refl

-- a pruned word performs what the word performs
pub pruned_performs : (g : Productions) (m : List Bool) → IsUnnormedSet g m →
    (w : List ℕ) → HaveSameTraces (step g) (step g) (pruned_word m w) w
pruned_performs g m set w s =
    let same = after_pruned_same g m set (pruned_word m w) w s (pruned-pruned m w) in (
      same_there (pruned_word m) (after g (pruned_word m w) s) (after g w s) same,
      same_there (pruned_word m) (after g w s) (after g (pruned_word m w) s) (sym same),
    )

-- no trace empties a word with a member of an unnormed set
pub never_empties : (g : Productions) (m : List Bool) → IsUnnormedSet g m →
    (w s : List ℕ) → has_marked m w ≡ true → Empties g w s → ⊥
never_empties g m set [] s h e = cc
never_empties g m set (n ∷ w) [] h e = cc
never_empties g m set (n ∷ w) (a ∷ s) h e =
    (elim (rule_of (row_of g n) a) as (λ o. rule_of (row_of g n) a ≡ o → option_and_then
    (λ x. after g x s) (option_map (λ x. x ++ w) o) ≡ Some [] → ⊥) [
      | None ↦ λ r e. cc
      | Some x ↦ λ r e. never_empties g m set (x ++ w) s
          ((elim (is_marked m n) as (λ b. is_marked m n ≡ b → (b || has_marked m w) ≡ true → has_marked m (x ++ w) ≡ true) [
            | true ↦ λ is h. has_marked-append_l m x w (set n a x is r)
            | false ↦ λ is h. has_marked-append_r m x w h
          ]) refl h) e
    ]) refl e

-- a word of normed letters is emptied
normed_word : (g : Productions) (m : List Bool) → ((n : ℕ) → n < length g → is_marked m n ≡ false → HasNorm g n) →
    (w : List ℕ) → WordBelow (length g) w → has_marked m w ≡ false
    → (s : List ℕ) × Empties g w s
normed_word g m each [] range h = ([], refl)
normed_word g m each (n ∷ w) range h =
    (elim (is_marked m n) as (λ b. is_marked m n ≡ b → (b || has_marked m w) ≡ false → (s : List ℕ) × Empties g (n ∷ w) s) [
      | true ↦ λ is h. cc
      | false ↦ λ is h.
          let first = each n (All-head (λ k. k < length g) n w range) is in
          let rest = normed_word g m each w (All-tail (λ k. k < length g) n w range) h in
          (first.0 ++ rest.0, Empties-append g (n ∷ []) w first.0 rest.0 first.1 rest.1)
    ]) refl h

mark_none : (d : List (Option ℕ)) (n : ℕ) → is_marked (map is_none d) n ≡ true → bound_at d n ≡ None
mark_none [] n e = cc
mark_none (None ∷ d) zero e = refl
mark_none (Some k ∷ d) zero e = cc
mark_none (x ∷ d) (suc n) e = mark_none d n e

mark_some : (d : List (Option ℕ)) (n : ℕ) → n < length d → is_marked (map is_none d) n ≡ false → (k : ℕ) × (bound_at d n ≡ Some k)
mark_some [] n l e = absurd (omega arith)
mark_some (None ∷ d) zero l e = cc
mark_some (Some k ∷ d) zero l e = (k, refl)
mark_some (x ∷ d) (suc n) l e = mark_some d n (omega arith) e

module _ (g : Productions) (d : List (Option ℕ)) (m : List Bool) (is : m ≡ map is_none d) (len : length d ≡ length g)
    (each : (n : ℕ) → IsNormOrNone g n (bound_at d n)) where
  pub marked : (n : ℕ) → is_marked m n ≡ true → HasNoNorm g n
  marked n e = let h = each n in let none : bound_at d n ≡ None = mark_none d n (ap (λ x. is_marked x n) (sym is) ∙ e) in subst
      (λ (o : Option ℕ). IsNormOrNone g n o) none h

  pub unmarked : (n : ℕ) → n < length g → is_marked m n ≡ false → HasNorm g n
  unmarked n l e =
      let some = mark_some d n (omega arith) (ap (λ x. is_marked x n) (sym is) ∙ e) in
      let h = subst (λ (o : Option ℕ). IsNormOrNone g n o) some.1 (each n) in
      (h.reached.0, h.reached.1)

  pub unnormed_set : InRange g → IsUnnormedSet g m
  unnormed_set range n a v e r =
      (elim (has_marked m v) as (λ b. has_marked m v ≡ b → b ≡ true) [
        | true ↦ λ h. refl
        | false ↦ λ h. let s = normed_word g m unmarked v (row_in_range g n a v range r) h in
            absurd (marked n e (a ∷ s.0) (after_rule g n a v [] s.0 r ∙ rw append-nil s.1))
      ]) refl

  pub largest : (other : List Bool) (n : ℕ) → IsUnnormedSet g other → is_marked other n ≡ true → n < length g →
      is_marked m n ≡ true
  largest other n set e l =
      (elim (is_marked m n) as (λ b. is_marked m n ≡ b → b ≡ true) [
        | true ↦ λ h. refl
        | false ↦ λ h. let s = unmarked n l h in absurd (never_empties g other set (n ∷ []) s.0 (rw e refl) s.1)
      ]) refl
