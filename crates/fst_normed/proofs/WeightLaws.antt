-- Norms of words: a trace lowers them by at most its length, and some trace by just that.
use Rattle.std.proofs.Common.{◌≡◌, ◌≢◌, ◌+◌, ◌<◌, ◌≤◌, inl, inr, ℕ, zero, suc, List, [], ◌∷◌, ◌++◌, length, append_assoc, refl, sym, ◌∙◌, ap, subst, arith, Option, Some, None, false, true}
use Rattle.std.specs.Prelude.{is_some, option_and_then, option_map}
use Rattle.std.proofs.lemmas.Bool.{cases_lt}
use Rattle.std.proofs.lemmas.List.Elements.{All-append, All-head, All-tail}
use Rattle.fst_words.specs.Words.{InRange, Productions, WordBelow, after, row_of, rule_of}
use Rattle.fst_words.proofs.Laws.{row_in_range}
use Rattle.fst_norms.specs.Norms.{Empties}
use Rattle.fst_norms.specs.Bounds.{total}
use Rattle.fst_norms.proofs.Laws.{after_rule, after_trace, differ_back, one_alone, total-append}
use Rattle.fst_norms.specs.Lowering.{lowered, lowered_to}
use Rattle.fst_norms.specs.Bounds.{norm_of}
use Rattle.fst_words.specs.Differences.{Differ}

-- no rule lowers a norm by more than one, and the one that gives the lowering word lowers it by one
pub record AreWeights (rows : Productions) (norms : List (Option ℕ)) (words : List (List ℕ)) : Type 0 where
  pub few : (n a : ℕ) (v : List ℕ) → rule_of (row_of rows n) a ≡ Some v → norm_of norms n ≤ suc (total norms v)
  pub lowers : (n : ℕ) → n < length rows → (a : ℕ) × (rule_of (row_of rows n) a ≡ Some (lowered_to words n)) ×
      (norm_of norms n ≡ suc (total norms (lowered_to words n)))

-- a trace of this length leads to a word whose norm is lower by it
pub record IsLoweredBy (rows : Productions) (norms : List (Option ℕ)) (u : List ℕ) (k : ℕ) (x : List ℕ) : Type 0 where
  pub trace : List ℕ
  pub leads : after rows u trace ≡ Some x
  pub len : length trace ≡ k
  pub norm : total norms x + k ≡ total norms u
  pub below : WordBelow (length rows) x

-- where rules lower norms by one at most, a trace lowers them by its length at most
pub few_by_trace : (rows : Productions) (norms : List (Option ℕ)) →
    ((n a : ℕ) (v : List ℕ) → rule_of (row_of rows n) a ≡ Some v → norm_of norms n ≤ suc (total norms v)) →
    (s u x : List ℕ) → after rows u s ≡ Some x → total norms u ≤ total norms x + length s
few_by_trace rows norms few [] u x e = let same : u ≡ x = cc in let t = ap (total norms) same in omega arith
few_by_trace rows norms few (a ∷ s) [] x e = cc
few_by_trace rows norms few (a ∷ s) (n ∷ u) x e =
    (elim (rule_of (row_of rows n) a) as (λ o. rule_of (row_of rows n) a ≡ o → option_and_then
    (λ y. after rows y s) (option_map (λ v. v ++ u) o) ≡ Some x →
    total norms (n ∷ u) ≤ total norms x + length (a ∷ s)) [
      | None ↦ λ r e. cc
      | Some v ↦ λ r e.
          let h = few_by_trace rows norms few s (v ++ u) x e in
          let sum = total-append norms v u in
          let k = few n a v r in
          omega arith
    ]) refl e

module _ (rows : Productions) (norms : List (Option ℕ)) (words : List (List ℕ)) (range : InRange rows)
    (f : AreWeights rows norms words) where
  -- words stay in range
  pub trace_in_range : (s u x : List ℕ) → WordBelow (length rows) u → after rows u s ≡ Some x → WordBelow (length rows) x
  trace_in_range [] u x h e = subst (WordBelow (length rows)) (let same : u ≡ x = cc in same) h
  trace_in_range (a ∷ s) [] x h e = cc
  trace_in_range (a ∷ s) (n ∷ u) x h e =
      (elim (rule_of (row_of rows n) a) as (λ o. rule_of (row_of rows n) a ≡ o → option_and_then
      (λ y. after rows y s) (option_map (λ v. v ++ u) o) ≡ Some x →
      WordBelow (length rows) x) [
        | None ↦ λ r e. cc
        | Some v ↦ λ r e. trace_in_range s (v ++ u) x
            (All-append (λ k. k < length rows) v u (row_in_range rows n a v range r) (All-tail (λ k. k < length rows) n u h)) e
      ]) refl e

  -- a non-terminal has a norm above 0
  pub some_norm : (n : ℕ) → n < length rows → 1 ≤ norm_of norms n
  some_norm n lt = let l = f.lowers n lt in let e = l.2 in omega arith

  -- only the empty word has norm 0
  pub nothing_left : (u : List ℕ) → WordBelow (length rows) u → total norms u ≡ 0 → u ≡ []
  nothing_left [] h e = refl
  nothing_left (n ∷ u) h e = absurd (let p = some_norm n (All-head (λ k. k < length rows) n u h) in omega arith)

  -- steps that lower a word's norm, each by one
  pub lowers_by : (k : ℕ) (u : List ℕ) → WordBelow (length rows) u → k ≤ total norms u →
      IsLoweredBy rows norms u k (lowered words k u)
  lowers_by zero u h le = record { trace = []; leads = refl; len = refl; norm = omega arith; below = h }
  lowers_by (suc k) [] h le = absurd (omega arith)
  lowers_by (suc k) (n ∷ u) h le =
      let l = f.lowers n (All-head (λ k. k < length rows) n u h) in
      let v = lowered_to words n in
      let sum = total-append norms v u in
      let is = l.2 in
      let low : WordBelow (length rows) (v ++ u) = All-append
      (λ k. k < length rows) v u (row_in_range rows n l.0 v range l.1) (All-tail (λ k. k < length rows) n u h) in
      let r = lowers_by k (v ++ u) low (omega arith) in
      let a = r.len in
      let b = r.norm in
      record {
        trace = l.0 ∷ r.trace;
        leads = after_rule rows n l.0 v u r.trace l.1 ∙ r.leads;
        len = omega arith;
        norm =
            omega arith;
        below = r.below;
      }

  -- a trace as long as the norm empties a word
  pub emptied : (u : List ℕ) → WordBelow (length rows) u → (s : List ℕ) × Empties rows u s × (length s ≡ total norms u)
  emptied u h =
      let l = lowers_by (total norms u) u h (omega arith) in
      let e = l.norm in
      (l.trace, l.leads ∙ ap Some (nothing_left (lowered words (total norms u) u) l.below (omega arith)), l.len)

  -- the empty word performs nothing, and other words perform something
  moves_on : (y : List ℕ) → WordBelow (length rows) y → 1 ≤ total norms y → Differ rows [] y
  moves_on [] h le = absurd (omega arith)
  moves_on (m ∷ y) h le =
      let l = f.lowers m (All-head (λ k. k < length rows) m y h) in
      let e = after_rule rows m l.0 (lowered_to words m) y [] l.1 in
      (l.0 ∷ [], λ same. (let no : false ≡ true = same ∙ ap is_some e in cc))

  less_norm : (u v : List ℕ) → WordBelow (length rows) u → WordBelow (length rows) v → total norms u < total norms v →
      Differ rows u v
  less_norm u v hu hv lt =
      let s = emptied u hu in
      let len = s.2 in
      (elim (after rows v s.0) as (λ o. after rows v s.0 ≡ o → Differ rows u v) [
        | None ↦ λ e. one_alone rows u v s.0 [] s.1 e
        | Some y ↦ λ e.
            let few = few_by_trace rows norms f.few s.0 v y e in
            after_trace rows u v s.0 [] y s.1 e (moves_on y (trace_in_range s.0 v y hv e) (omega arith))
      ]) refl

  -- words with different norms differ
  pub other_norm : (u v : List ℕ) → WordBelow (length rows) u → WordBelow (length rows) v → total norms u ≢ total norms v →
      Differ rows u v
  other_norm u v hu hv ne = elim (cases_lt (total norms u) (total norms v)) [
    | inl lt ↦ less_norm u v hu hv lt
    | inr le ↦ differ_back rows v u (less_norm v u hv hu (omega arith))
  ]

  -- what lowers the norm of two words by its length, and isn't longer than the first word's norm, lowers that of the first word
  pub front_lowered : (s w u z : List ℕ) → after rows (w ++ u) s ≡ Some z → length s ≤ total norms w →
      total norms z + length s ≡ total norms w + total norms u →
      (x : List ℕ) × (after rows w s ≡ Some x) × (z ≡ x ++ u) × (total norms x + length s ≡ total norms w)
  front_lowered [] w u z e le sum = (w, refl, (let same : w ++ u ≡ z = cc in sym same), omega arith)
  front_lowered (a ∷ s) [] u z e le sum = absurd (omega arith)
  front_lowered (a ∷ s) (n ∷ w) u z e le sum =
      (elim (rule_of (row_of rows n) a) as (λ o. rule_of (row_of rows n) a ≡ o → option_and_then
      (λ y. after rows y s) (option_map (λ v. v ++ (w ++ u)) o) ≡ Some z →
      (x : List ℕ) × (option_and_then (λ y. after rows y s) (option_map (λ v. v ++ w) o) ≡ Some x) × (z ≡ x ++ u) ×
      (total norms x + length (a ∷ s) ≡ total norms (n ∷ w))) [
        | None ↦ λ r e. cc
        | Some v ↦ λ r e.
            let first = f.few n a v r in
            let e2 : after rows ((v ++ w) ++ u) s ≡ Some z = ap (λ (y : List ℕ). after rows y s) (append_assoc v w u) ∙ e in
            let all = few_by_trace rows norms f.few s ((v ++ w) ++ u) z e2 in
            let sum1 = total-append norms (v ++ w) u in
            let sum2 = total-append norms v w in
            let q = front_lowered s (v ++ w) u z e2 (omega arith) (omega arith) in
            let left = q.3 in
            (q.0, q.1, q.2, omega arith)
      ]) refl e
