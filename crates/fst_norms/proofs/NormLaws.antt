-- Bounds that come from traces, and when they are the norms.
use Rattle.std.proofs.Common.{◌≡◌, ◌≢◌, ℕ, ◌+◌, ◌<◌, ◌≤◌, List, [], ◌∷◌, ◌++◌, length, Option, Some, None, true, false, min, refl, sym, ◌∙◌, ap, arith, append_assoc, ◌==◌, ◌&&◌, is_some, length-append}
use Rattle.std.specs.Prelude.{option_and_then, option_map, unwrap_or, cond}
use Rattle.std.proofs.lemmas.Bool.{eqb-true, eq-eqb}
use Rattle.std.proofs.lemmas.Bool.Decides.{eqb_tells}
use Rattle.std.proofs.Common.{◌⊎◌, inl, inr, get_or, set, get_or-set_same, get_or-set_other, append-nil}
use Rattle.fst_words.specs.declared.rules.Rule.{Rule}
use Rattle.fst_words.specs.Words.{Productions, row_of, rule_of, step, after}
use Rattle.fst_words.specs.Ordered.{IsAbove, AreOrdered}
use Rattle.fst_norms.specs.Norms.{Empties, IsNormOrNone}
use Rattle.fst_base.specs.Limits.{greatest_norm}
use Rattle.fst_norms.specs.Bounds.{bound_at, all_bounded, total, word_bound, rule_bound, weight, lesser, one_more, best_bound, IsSound, IsSettledAt}
use Rattle.fst_words.proofs.Laws.{present}

-- what follows a word stays behind it
pub after-append : (g : Productions) (u w s x : List ℕ) → after g u s ≡ Some x → after g (u ++ w) s ≡ Some (x ++ w)
after-append g u w [] x e = ap (λ (y : List ℕ). Some (y ++ w)) (let f : u ≡ x = cc in f)
after-append g [] w (a ∷ s) x e = cc
after-append g (n ∷ u) w (a ∷ s) x e =
    (elim (rule_of (row_of g n) a) as (λ o. option_and_then (λ v. after g v s) (option_map (λ v. v ++ u) o) ≡ Some x
    → option_and_then (λ v. after g v s) (option_map (λ v. v ++ (u ++ w)) o) ≡ Some (x ++ w)) [
      | None ↦ λ e. cc
      | Some v ↦ λ e. rw (← append_assoc v u w) (after-append g (v ++ u) w s x e)
    ]) e

-- one trace after another
pub after_both : (g : Productions) (w s t x : List ℕ) → after g w s ≡ Some x → after g w (s ++ t) ≡ after g x t
after_both g w [] t x e = ap (λ (y : List ℕ). after g y t) (let f : w ≡ x = cc in f)
after_both g w (a ∷ s) t x e =
    (elim (step g w a) as (λ o. option_and_then (λ v. after g v s) o ≡ Some x → option_and_then
    (λ v. after g v (s ++ t)) o ≡ after g x t) [
      | None ↦ λ e. cc
      | Some v ↦ λ e. after_both g v s t x e
    ]) e

pub Empties-append : (g : Productions) (u w s t : List ℕ) → Empties g u s → Empties g w t → Empties g (u ++ w) (s ++ t)
Empties-append g u w s t e f = after_both g (u ++ w) s t w (after-append g u w s [] e) ∙ f

-- a rule with this letter and word
pub after_rule : (g : Productions) (n a : ℕ) (v w s : List ℕ) → rule_of (row_of g n) a ≡ Some v →
    after g (n ∷ w) (a ∷ s) ≡ after g (v ++ w) s
after_rule g n a v w s e = rw e refl

-- a word whose letters have bounds is emptied by a trace of the sum of the bounds
pub sound_word : (g : Productions) (d : List (Option ℕ)) → IsSound g d → (w : List ℕ) → all_bounded d w ≡ true
    → (s : List ℕ) × Empties g w s × (min (total d w) greatest_norm ≡ min (length s) greatest_norm)
sound_word g d sound [] e = ([], refl, refl)
sound_word g d sound (n ∷ w) e =
    (elim (bound_at d n) as (λ o. bound_at d n ≡ o → (is_some o && all_bounded d w) ≡ true → (s : List ℕ) × Empties g (n ∷ w) s ×
    (min (unwrap_or o 0 + total d w) greatest_norm ≡ min (length s) greatest_norm)) [
      | None ↦ λ at e. cc
      | Some k ↦ λ at e.
          let first = sound n k at in
          let rest = sound_word g d sound w e in (
            first.0 ++ rest.0,
            Empties-append g (n ∷ []) w first.0 rest.0 first.1 rest.1,
            (let l = length-append first.0 rest.0 in let p = first.2 in let q = rest.2 in omega arith),
          )
    ]) refl e

-- the rule with this letter stands above letters that are below
pub rule_of-above : (rs : List Rule) (b a : ℕ) (v : List ℕ) → IsAbove b rs → AreOrdered rs → rule_of rs a ≡ Some v → b < a
rule_of-above [] b a v up order e = cc
rule_of-above (r ∷ rs) b a v up order e =
    (elim (r.letter == a) as (λ t. r.letter == a ≡ t → (cond t (Some r.word) (rule_of rs a)) ≡ Some v → b < a) [
      | true ↦ λ t e. let same : r.letter ≡ a = eqb-true r.letter a t in omega arith
      | false ↦ λ t e. let lt = rule_of-above rs r.letter a v order.0 order.1 e in omega arith
    ]) refl e

pub lesser-none : (b : Option ℕ) → lesser None b ≡ b
lesser-none None = refl
lesser-none (Some b) = refl

lesser_split : (x y : Option ℕ) (k : ℕ) → lesser x y ≡ Some k → (x ≡ Some k) ⊎ (y ≡ Some k)
lesser_split x None k e = inl e
lesser_split None (Some b) k e = inr e
lesser_split (Some a) (Some b) k e =
    let f : min a b ≡ k = cc in
    elim (eqb_tells k a) as (λ _. (Some a ≡ Some k) ⊎ (Some b ≡ Some k)) [
      | inl p ↦ inl (ap Some (sym p.1))
      | inr p ↦ let ne : k ≢ a = p.1 in inr (ap Some (let g : b ≡ k = omega arith in g))
    ]

one_more_some : (d : List (Option ℕ)) (v : List ℕ) (k : ℕ) → one_more (word_bound d v) ≡ Some k → (all_bounded d v ≡ true) ×
    (k ≡ min (total d v + 1) greatest_norm)
one_more_some d v k e =
    (elim (all_bounded d v) as (λ b. one_more (cond b (Some (min (total d v) greatest_norm)) None) ≡ Some k → (b ≡ true) ×
    (k ≡ min (total d v + 1) greatest_norm)) [
      | true ↦ λ e. (refl, (let f : min (min (total d v) greatest_norm + 1) greatest_norm ≡ k = cc in omega arith))
      | false ↦ λ e. cc
    ]) e

-- the best bound is that of some rule
pub best_bound_some : (d : List (Option ℕ)) (rs : List Rule) (k : ℕ) → AreOrdered rs → best_bound d rs ≡ Some k
    → (a : ℕ) × (v : List ℕ) × (rule_of rs a ≡ Some v) × (all_bounded d v ≡ true) × (k ≡ min (total d v + 1) greatest_norm)
best_bound_some d [] k up e = cc
best_bound_some d (r ∷ rs) k up e =
    elim (lesser_split (rule_bound d r) (best_bound d rs) k e) [
      | inl p ↦ let q = one_more_some d r.word k p in (r.letter, r.word, rw (eq-eqb r.letter r.letter refl) refl, q.0, q.1)
      | inr p ↦
          let q = best_bound_some d rs k up.1 p in
          let lt : r.letter < q.0 = rule_of-above rs r.letter q.0 q.1 up.0 up.1 q.2 in
          elim (eqb_tells r.letter q.0) [
            | inl t ↦ absurd (let same = t.1 in omega arith)
            | inr t ↦ (q.0, q.1, rw t.0 q.2, q.3, q.4)
          ]
    ]

weight-lesser_l : (x y : Option ℕ) → weight (lesser x y) ≤ weight x
weight-lesser_l x None = omega arith
weight-lesser_l None (Some b) = omega arith
weight-lesser_l (Some a) (Some b) = omega arith

weight-lesser_r : (x y : Option ℕ) → weight (lesser x y) ≤ weight y
weight-lesser_r None None = omega arith
weight-lesser_r (Some a) None = omega arith
weight-lesser_r None (Some b) = omega arith
weight-lesser_r (Some a) (Some b) = omega arith

weight-normed : (d : List (Option ℕ)) (v : List ℕ) → all_bounded d v ≡ true →
    weight (one_more (word_bound d v)) ≤ min (total d v + 1) greatest_norm
weight-normed d v e = rw e (omega arith)

-- no rule gives less than the best bound
pub best_bound_least : (d : List (Option ℕ)) (rs : List Rule) (a : ℕ) (v : List ℕ) → rule_of rs a ≡ Some v →
    all_bounded d v ≡ true
    → weight (best_bound d rs) ≤ min (total d v + 1) greatest_norm
best_bound_least d [] a v e f = cc
best_bound_least d (r ∷ rs) a v e f =
    let l = weight-lesser_l (rule_bound d r) (best_bound d rs) in
    let m = weight-lesser_r (rule_bound d r) (best_bound d rs) in
    (elim (r.letter == a) as (λ t. cond t (Some r.word) (rule_of rs a) ≡ Some v →
    weight (best_bound d (r ∷ rs)) ≤ min (total d v + 1) greatest_norm) [
      | true ↦ λ e. let same : r.word ≡ v = cc in let h = weight-normed d r.word (ap (all_bounded d) same ∙ f) in let t =
          ap (total d) same in omega arith
      | false ↦ λ e. let h = best_bound_least d rs a v e f in omega arith
    ]) e

-- a bound below another is there
weight_some : (o : Option ℕ) (b : ℕ) → weight o ≤ min (b + 1) greatest_norm → (k : ℕ) × (o ≡ Some k)
weight_some None b h = absurd (omega arith)
weight_some (Some k) b h = (k, refl)

all_bounded-append : (d : List (Option ℕ)) (v w : List ℕ) → all_bounded d (v ++ w) ≡ true → (all_bounded d v ≡ true) ×
    (all_bounded d w ≡ true)
all_bounded-append d [] w e = (refl, e)
all_bounded-append d (n ∷ v) w e =
    (elim (is_some (bound_at d n)) as (λ b. (b && all_bounded d (v ++ w)) ≡ true → ((b && all_bounded d v) ≡ true) ×
    (all_bounded d w ≡ true)) [
      | true ↦ λ e. all_bounded-append d v w e
      | false ↦ λ e. cc
    ]) e

pub total-append : (d : List (Option ℕ)) (v w : List ℕ) → total d (v ++ w) ≡ total d v + total d w
total-append d [] w = omega arith
total-append d (n ∷ v) w = let h = total-append d v w in omega arith

-- no trace that empties a word is shorter than the sum of settled bounds
pub least_word : (g : Productions) (d : List (Option ℕ)) → ((n k : ℕ) → bound_at d n ≡ Some k → k ≤ greatest_norm) →
    ((n : ℕ) → IsSettledAt g d n) → (w s : List ℕ) → Empties g w s
    → (all_bounded d w ≡ true) × (total d w ≤ length s)
least_word g d cap settled [] s e = (refl, omega arith)
least_word g d cap settled (n ∷ w) [] e = cc
least_word g d cap settled (n ∷ w) (a ∷ s) e =
    (elim (rule_of (row_of g n) a) as (λ o. rule_of (row_of g n) a ≡ o → option_and_then
    (λ v. after g v s) (option_map (λ v. v ++ w) o) ≡ Some [] → (all_bounded d (n ∷ w) ≡ true) ×
    (total d (n ∷ w) ≤ length (a ∷ s))) [
      | None ↦ λ is e. cc
      | Some v ↦ λ is e.
          let h = least_word g d cap settled (v ++ w) s e in
          let parts = all_bounded-append d v w h.0 in
          let sum = total-append d v w in
          let best = best_bound_least d (row_of g n) a v is parts.0 in
          let here = settled n in
          let some = weight_some (bound_at d n) (total d v)
          (let x : weight (bound_at d n) ≤ min (total d v + 1) greatest_norm = omega arith in x) in
          let small = cap n some.0 some.1 in
          let e1 = ap weight some.1 in
          let e2 : unwrap_or (bound_at d n) 0 ≡ some.0 = ap (λ o. unwrap_or o 0) some.1 in
          let le = h.1 in
          (rw some.1 parts.1, (let e3 : unwrap_or (bound_at d n) 0 + total d w ≤ length s + 1 = omega arith in omega arith))
    ]) refl e

-- bounds that are sound and settled are the norms
pub exact : (g : Productions) (d : List (Option ℕ)) → IsSound g d → ((n : ℕ) → IsSettledAt g d n) →
    (n : ℕ) → IsNormOrNone g n (bound_at d n)
exact g d sound settled n =
    let cap = λ (m k : ℕ) (e : bound_at d m ≡ Some k).
    (let h = (sound m k e).2 in let x : k ≤ greatest_norm = omega arith in x) in
    (elim (bound_at d n) as (λ o. bound_at d n ≡ o → IsNormOrNone g n o) [
      | None ↦ λ is s e. let h = (least_word g d cap settled (n ∷ []) s e).0 in let x : is_some (bound_at d n) ≡ false =
          ap is_some is in let y = rw x at h in cc
      | Some k ↦ λ is. record {
        reached = sound n k is;
        least = λ s e. let h = (least_word g d cap settled (n ∷ []) s e).1 in let x : unwrap_or (bound_at d n) 0 ≡ k = ap
            (λ o. unwrap_or o 0) is in omega arith;
      }
    ]) refl

-- a bound, if it is there, is one by a rule of the non-terminal
abbrev pub IsByRule : Productions → List (Option ℕ) → ℕ → Option ℕ → Type 0
IsByRule g d n best = (k : ℕ) → best ≡ Some k → (a : ℕ) × (v : List ℕ) × (rule_of (row_of g n) a ≡ Some v) ×
    (all_bounded d v ≡ true) × (k ≡ min (total d v + 1) greatest_norm)

-- a bound by a rule is that of a trace too
lowered_sound : (g : Productions) (d : List (Option ℕ)) (n : ℕ) (best : Option ℕ) → IsByRule g d n best → IsSound g d →
    n < length d → IsSound g (set d n best)
lowered_sound g d n best by sound lt m k e =
    elim (eqb_tells m n) [
      | inl p ↦
          let same : best ≡ Some k = let e1 = rw p.1 at e in sym (get_or-set_same d n best None lt) ∙ e1 in
          let found = by k same in
          let below = sound_word g d sound found.1 found.3 in (
            found.0 ∷ below.0,
            rw p.1 (after_rule g n found.0 found.1 [] below.0 found.2 ∙ rw append-nil below.1),
            (let a = found.4 in let b = below.2 in omega arith),
          )
      | inr p ↦ sound m k (sym (get_or-set_other d n m best None p.1) ∙ e)
    ]

-- the best bound put in the place of a bound
pub improved_sound : (g : Productions) (d : List (Option ℕ)) (n : ℕ) (best : Option ℕ) (row : List Rule) → row ≡ row_of g n →
    AreOrdered row → IsSound g d
    → best ≡ best_bound d row → n < length d → IsSound g (set d n best)
improved_sound g d n best row at up sound is lt =
    lowered_sound g d n best (λ k same.
    let found = best_bound_some d row k up (sym is ∙ same) in
    (found.0, found.1, ap (λ x. rule_of x found.0) (sym at) ∙ found.2, found.3, found.4)) sound lt

-- the bound by one rule put in the place of a bound
pub relaxed_sound : (g : Productions) (d : List (Option ℕ)) (n i : ℕ) (r : Rule) (best : Option ℕ) → AreOrdered (row_of g n) →
    i < length (row_of g n) → get_or (row_of g n) i r ≡ r
    → IsSound g d → best ≡ rule_bound d r → n < length d → IsSound g (set d n best)
relaxed_sound g d n i r best up within at sound is lt =
    lowered_sound g d n best (λ k same.
    let found = one_more_some d r.word k (sym is ∙ same) in
    let rule : rule_of (row_of g n) r.letter ≡ Some r.word =
    present (row_of g n) r.letter i r up within (ap (λ (x : Rule). x.letter) at) ∙ ap (λ (x : Rule). Some x.word) at in
    (r.letter, r.word, rule, found.0, found.1)) sound lt
