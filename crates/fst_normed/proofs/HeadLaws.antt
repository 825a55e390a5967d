-- What differences of parts say of words that begin with two non-terminals.
use Rattle.std.proofs.Common.{◌≡◌, ◌≢◌, ◌<◌, ◌≤◌, inl, inr, ℕ, List, [], ◌∷◌, ◌++◌, length, append_assoc, refl, sym, ◌∙◌, ap, subst, arith, Option, Some, None, false}
use Rattle.std.specs.Prelude.{is_some, option_and_then, option_map}
use Rattle.std.proofs.lemmas.Bool.Decides.{eqb_tells}
use Rattle.std.proofs.lemmas.List.Elements.{All-append, All-cons, All-head, All-nil, All-tail}
use Rattle.fst_words.specs.Words.{InRange, Productions, WordBelow, after, row_of, rule_of}
use Rattle.fst_words.proofs.Laws.{row_in_range}
use Rattle.fst_norms.specs.Bounds.{total}
use Rattle.fst_norms.proofs.Laws.{after-append, after_rule, after_trace, differ_back, one_alone, third, total-append}
use Rattle.fst_norms.specs.Bounds.{norm_of}
use Rattle.fst_words.specs.Differences.{Differ}
use Rattle.fst_normed.specs.Candidates.{residual}
use Rattle.fst_normed.proofs.WeightLaws.{AreWeights, IsLoweredBy, emptied, front_lowered, lowers_by, nothing_left, other_norm, some_norm, trace_in_range}

-- where words with the same front differ, so does what stands behind it
pub same_front : (rows : Productions) (s w u v : List ℕ) → is_some (after rows (w ++ u) s) ≢ is_some (after rows (w ++ v) s) →
    Differ rows u v
same_front rows s [] u v ne = (s, ne)
same_front rows [] (n ∷ w) u v ne = absurd (ne refl)
same_front rows (a ∷ s) (n ∷ w) u v ne =
    (elim (rule_of (row_of rows n) a) as (λ o. is_some
    (option_and_then (λ y. after rows y s) (option_map (λ p. p ++ (w ++ u)) o)) ≢ is_some
    (option_and_then (λ y. after rows y s) (option_map (λ p. p ++ (w ++ v)) o)) →
    Differ rows u v) [
      | None ↦ λ ne. absurd (ne refl)
      | Some p ↦ λ ne. same_front rows s (p ++ w) u v (λ same.
          ne (ap (λ (z : List ℕ). is_some (after rows z s)) (sym (append_assoc p w u)) ∙ same ∙ ap
          (λ (z : List ℕ). is_some (after rows z s)) (append_assoc p w v)))
    ]) ne

module _ (rows : Productions) (norms : List (Option ℕ)) (words : List (List ℕ)) (range : InRange rows)
    (f : AreWeights rows norms words) where
  -- where the same non-terminal stands in front, it is no matter
  pub same_head : (n : ℕ) (u v : List ℕ) → n < length rows → Differ rows u v → Differ rows (n ∷ u) (n ∷ v)
  same_head n u v lt d =
      let s = emptied rows norms words range f (n ∷ [])
      (All-cons (λ k. k < length rows) n [] lt (All-nil (λ k. k < length rows))) in
      after_trace rows (n ∷ u) (n ∷ v) s.0 u v (after-append rows (n ∷ []) u s.0 [] s.1)
      (after-append rows (n ∷ []) v s.0 [] s.1) d

  -- what Y becomes by as many steps as the norm of X
  pub residual_lowered : (x y : ℕ) → y < length rows → norm_of norms x ≤ norm_of norms y →
      IsLoweredBy rows norms (y ∷ []) (norm_of norms x) (residual norms words x y)
  residual_lowered x y lt le = lowers_by rows norms words range f (norm_of norms x) (y ∷ [])
      (All-cons (λ k. k < length rows) y [] lt (All-nil (λ k. k < length rows))) (omega arith)

  -- where words with the same word behind them don't differ, neither do they
  pub front_differs : (s w x v : List ℕ) → WordBelow (length rows) w → WordBelow (length rows) x → WordBelow (length rows) v →
      is_some (after rows w s) ≢ is_some (after rows x s) → Differ rows (w ++ v) (x ++ v)
  front_differs [] w x v hw hx hv ne = absurd (ne refl)
  front_differs (a ∷ s) [] [] v hw hx hv ne = absurd (ne refl)
  front_differs (a ∷ s) [] (m ∷ x) v hw hx hv ne =
      let p = some_norm rows norms words range f m (All-head (λ k. k < length rows) m x hx) in
      let sum = total-append norms (m ∷ x) v in
      other_norm rows norms words range f v ((m ∷ x) ++ v) hv (All-append (λ k. k < length rows) (m ∷ x) v hx hv)
      (λ same. omega arith)
  front_differs (a ∷ s) (n ∷ w) [] v hw hx hv ne =
      let p = some_norm rows norms words range f n (All-head (λ k. k < length rows) n w hw) in
      let sum = total-append norms (n ∷ w) v in
      other_norm rows norms words range f ((n ∷ w) ++ v) v (All-append (λ k. k < length rows) (n ∷ w) v hw hv) hv
      (λ same. omega arith)
  front_differs (a ∷ s) (n ∷ w) (m ∷ x) v hw hx hv ne =
      (elim (rule_of (row_of rows n) a) as (λ o. rule_of (row_of rows n) a ≡ o →
      is_some (option_and_then (λ y. after rows y s) (option_map (λ p. p ++ w) o)) ≢ is_some (after rows (m ∷ x) (a ∷ s)) →
      Differ rows (n ∷ (w ++ v)) (m ∷ (x ++ v))) [
        | None ↦ λ r ne.
            (elim (rule_of (row_of rows m) a) as (λ o. rule_of (row_of rows m) a ≡ o →
            false ≢ is_some (option_and_then (λ y. after rows y s) (option_map (λ p. p ++ x) o)) →
            Differ rows (n ∷ (w ++ v)) (m ∷ (x ++ v))) [
              | None ↦ λ q ne. absurd (ne refl)
              | Some y ↦ λ q ne. differ_back rows (m ∷ (x ++ v)) (n ∷ (w ++ v))
                  (one_alone rows (m ∷ (x ++ v)) (n ∷ (w ++ v)) (a ∷ []) (y ++ (x ++ v)) (after_rule rows m a y (x ++ v) [] q)
                  (rw r refl))
            ]) refl ne
        | Some p ↦ λ r ne.
            (elim (rule_of (row_of rows m) a) as (λ o. rule_of (row_of rows m) a ≡ o →
            is_some (after rows (p ++ w) s) ≢ is_some (option_and_then (λ y. after rows y s) (option_map (λ p. p ++ x) o)) →
            Differ rows (n ∷ (w ++ v)) (m ∷ (x ++ v))) [
              | None ↦ λ q ne. one_alone rows (n ∷ (w ++ v)) (m ∷ (x ++ v)) (a ∷ []) (p ++ (w ++ v))
                  (after_rule rows n a p (w ++ v) [] r) (rw q refl)
              | Some y ↦ λ q ne.
                  let left = All-append (λ k. k < length rows) p w (row_in_range rows n a p range r)
                  (All-tail (λ k. k < length rows) n w hw) in
                  let right = All-append (λ k. k < length rows) y x (row_in_range rows m a y range q)
                  (All-tail (λ k. k < length rows) m x hx) in
                  let d = front_differs s (p ++ w) (y ++ x) v left right hv ne in
                  let d2 = subst (λ (z : List ℕ). Differ rows z ((y ++ x) ++ v)) (append_assoc p w v) d in
                  let d3 = subst (λ (z : List ℕ). Differ rows (p ++ (w ++ v)) z) (append_assoc y x v) d2 in
                  after_trace rows (n ∷ (w ++ v)) (m ∷ (x ++ v)) (a ∷ []) (p ++ (w ++ v)) (y ++ (x ++ v))
                  (after_rule rows n a p (w ++ v) [] r) (after_rule rows m a y (x ++ v) [] q) d3
            ]) refl ne
      ]) refl ne

  -- where U and B V differ, so do X U and Y V
  pub rest_differs : (x y : ℕ) (u v : List ℕ) → WordBelow (length rows) (x ∷ u) → WordBelow (length rows) (y ∷ v) →
      norm_of norms x ≤ norm_of norms y →
      Differ rows u (residual norms words x y ++ v) → Differ rows (x ∷ u) (y ∷ v)
  rest_differs x y u v hx hy le d =
      let b = residual norms words x y in
      let l = residual_lowered x y (All-head (λ k. k < length rows) y v hy) le in
      let right : after rows (y ∷ v) l.trace ≡ Some (b ++ v) = after-append rows (y ∷ []) v l.trace b l.leads in
      elim (eqb_tells (total norms (x ∷ u)) (total norms (y ∷ v))) [
        | inr p ↦ other_norm rows norms words range f (x ∷ u) (y ∷ v) hx hy p.1
        | inl p ↦
            (elim (after rows (x ∷ u) l.trace) as (λ o. after rows (x ∷ u) l.trace ≡ o → Differ rows (x ∷ u) (y ∷ v)) [
              | None ↦ λ e. differ_back rows (y ∷ v) (x ∷ u) (one_alone rows (y ∷ v) (x ∷ u) l.trace (b ++ v) right e)
              | Some z ↦ λ e. after_trace rows (x ∷ u) (y ∷ v) l.trace z (b ++ v) e right (behind x y u v hx hy le d l p.1 z e)
            ]) refl
      ]
    where
      behind : (x y : ℕ) (u v : List ℕ) → WordBelow (length rows) (x ∷ u) → WordBelow (length rows) (y ∷ v) →
          norm_of norms x ≤ norm_of norms y →
          Differ rows u (residual norms words x y ++ v) →
          (l : IsLoweredBy rows norms (y ∷ []) (norm_of norms x) (residual norms words x y)) →
          total norms (x ∷ u) ≡ total norms (y ∷ v) →
          (z : List ℕ) → after rows (x ∷ u) l.trace ≡ Some z → Differ rows z (residual norms words x y ++ v)
      behind x y u v hx hy le d l even z e =
          let b = residual norms words x y in
          let len = l.len in
          let low = l.norm in
          let sum = total-append norms b v in
          elim (eqb_tells (total norms z) (total norms (b ++ v))) [
            | inr p ↦ other_norm rows norms words range f z (b ++ v)
                (trace_in_range rows norms words range f l.trace (x ∷ u) z hx e)
                (All-append (λ k. k < length rows) b v l.below (All-tail (λ k. k < length rows) y v hy)) p.1
            | inl p ↦
                let same = p.1 in
                let q = front_lowered rows norms words range f l.trace (x ∷ []) u z e (omega arith) (omega arith) in
                let sum0 = q.3 in
                let hx0 = All-cons (λ k. k < length rows) x [] (All-head (λ k. k < length rows) x u hx)
                (All-nil (λ k. k < length rows)) in
                let none : q.0 ≡ [] = nothing_left rows norms words range f q.0
                (trace_in_range rows norms words range f l.trace (x ∷ []) q.0 hx0 q.1) (omega arith) in
                subst (λ (w : List ℕ). Differ rows w (b ++ v)) (sym (q.2 ∙ ap (λ (w : List ℕ). w ++ u) none)) d
          ]

  -- where Y and X B differ, so do X U and Y V
  pub candidate_differs : (x y : ℕ) (u v : List ℕ) → WordBelow (length rows) (x ∷ u) → WordBelow (length rows) (y ∷ v) →
      norm_of norms x ≤ norm_of norms y →
      Differ rows (y ∷ []) (x ∷ residual norms words x y) → Differ rows (x ∷ u) (y ∷ v)
  candidate_differs x y u v hx hy le d =
      let b = residual norms words x y in
      let lx = All-head (λ k. k < length rows) x u hx in
      let ly = All-head (λ k. k < length rows) y v hy in
      let l = residual_lowered x y ly le in
      let d1 = front_differs d.0 (y ∷ []) (x ∷ b) v (All-cons (λ k. k < length rows) y [] ly (All-nil (λ k. k < length rows)))
      (All-cons (λ k. k < length rows) x b lx l.below)
      (All-tail (λ k. k < length rows) y v hy) d.1 in
      elim (third (is_some (after rows (x ∷ u) d1.0)) (is_some (after rows (y ∷ v) d1.0))
      (is_some (after rows (x ∷ (b ++ v)) d1.0)) d1.1) [
        | inl ne ↦ (d1.0, ne)
        | inr ne ↦ rest_differs x y u v hx hy le (same_front rows d1.0 (x ∷ []) u (b ++ v) ne)
      ]
