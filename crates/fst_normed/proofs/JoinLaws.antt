-- Words are joined by their heads, or they differ; and they differ where those of a candidate do that they need.
use Rattle.std.proofs.Common.{◌≡◌, ◌<◌, ◌≤◌, ◌⊎◌, inl, inr, ℕ, zero, suc, List, [], ◌∷◌, ◌++◌, length, refl, sym, ap, subst, arith, Option, Some}
use Rattle.std.specs.Prelude.{option_and_then}
use Rattle.std.proofs.lemmas.List.Elements.{All-cons, All-head, All-nil}
use Rattle.fst_words.specs.Words.{InRange, Productions, WordBelow, after, step}
use Rattle.fst_words.specs.Differences.{Differ}
use Rattle.fst_norms.specs.Bounds.{total}
use Rattle.fst_norms.proofs.Laws.{after_trace, differ_back}
use Rattle.fst_normed.specs.Candidates.{CandidateDiffers, IsCandidate, IsThere, residual}
use Rattle.fst_normed.specs.Joining.{AreJoinedByHeads, dropped, exchanged, exchanged_within, exchanges}
use Rattle.fst_normed.specs.Needs.{IsNeeded, Needs}
use Rattle.fst_normed.proofs.WeightLaws.{AreWeights, other_norm, some_norm, trace_in_range}
use Rattle.fst_normed.proofs.HeadLaws.{candidate_differs, residual_lowered, rest_differs, same_head}
use Rattle.fst_normed.proofs.ExchangeLaws.{AreResiduals, Heads, dropped_less, heads, there_either}

nothing_there : (c : ℕ × ℕ) → IsThere [] c → ⊥
nothing_there c t = (let e = t.1 in cc)

only_there : (d c : ℕ × ℕ) → IsThere (d ∷ []) c → c ≡ d
only_there d c (zero, e) = cc
only_there d c (suc at, e) = absurd (cc e)

module _ (rows : Productions) (norms : List (Option ℕ)) (words : List (List ℕ)) (range : InRange rows)
    (f : AreWeights rows norms words) where
  pub residuals : AreResiduals norms words (length rows)
  residuals = record {
    some = some_norm rows norms words range f;
    below = λ x y lt le. (residual_lowered rows norms words range f x y lt le).below;
    total = λ x y lt le. (let e = (residual_lowered rows norms words range f x y lt le).norm in omega arith);
  }

  module _ (n m : ℕ) (u v : List ℕ) (hu : WordBelow (length rows) (n ∷ u)) (hv : WordBelow (length rows) (m ∷ v)) where
    -- where what is left of two words differs, so do the words
    dropped_differs : Differ rows (dropped norms words n u m v).0 (dropped norms words n u m v).1 → Differ rows (n ∷ u) (m ∷ v)
    dropped_differs d = elim (heads norms words n u m v) [
      | Heads.same e x y ↦ subst (λ (z : ℕ). Differ rows (n ∷ u) (z ∷ v)) e
          (same_head rows norms words range f n u v (All-head (λ k. k < length rows) n u hu)
          (subst (λ (z : List ℕ × List ℕ). Differ rows z.0 z.1) x d))
      | Heads.right ne le x y ↦ rest_differs rows norms words range f n m u v hu hv le
          (subst (λ (z : List ℕ × List ℕ). Differ rows z.0 z.1) x d)
      | Heads.left ne lt x y ↦ differ_back rows (m ∷ v) (n ∷ u) (rest_differs rows norms words range f m n v u hv hu (omega arith)
          (differ_back rows (residual norms words m n ++ u) v (subst (λ (z : List ℕ × List ℕ). Differ rows z.0 z.1) x d)))
    ]

    -- and where the words of the candidate differ that their heads exchange
    exchanged_differs : (c : ℕ × ℕ) → IsThere (exchanged norms n m) c → CandidateDiffers rows norms words c →
        Differ rows (n ∷ u) (m ∷ v)
    exchanged_differs c t d = elim (heads norms words n u m v) [
      | Heads.same e x y ↦ absurd (nothing_there c (subst (λ (z : List (ℕ × ℕ)). IsThere z c) y t))
      | Heads.right ne le x y ↦
          let is = only_there (n, m) c (subst (λ (z : List (ℕ × ℕ)). IsThere z c) y t) in
          candidate_differs rows norms words range f n m u v hu hv le (subst (CandidateDiffers rows norms words) is d)
      | Heads.left ne lt x y ↦
          let is = only_there (m, n) c (subst (λ (z : List (ℕ × ℕ)). IsThere z c) y t) in
          differ_back rows (m ∷ v) (n ∷ u) (candidate_differs rows norms words range f m n v u hv hu (omega arith)
          (subst (CandidateDiffers rows norms words) is d))
    ]

    exchanged_is : (c : ℕ × ℕ) → IsThere (exchanged norms n m) c → IsCandidate (length rows) norms c
    exchanged_is c t =
        let ln = All-head (λ k. k < length rows) n u hu in
        let lm = All-head (λ k. k < length rows) m v hv in
        elim (heads norms words n u m v) [
          | Heads.same e x y ↦ absurd (nothing_there c (subst (λ (z : List (ℕ × ℕ)). IsThere z c) y t))
          | Heads.right ne le x y ↦ subst (IsCandidate (length rows) norms)
              (sym (only_there (n, m) c (subst (λ (z : List (ℕ × ℕ)). IsThere z c) y t)))
              (record { first = ln; second = lm; other = ne; norm = le })
          | Heads.left ne lt x y ↦ subst (IsCandidate (length rows) norms)
              (sym (only_there (m, n) c (subst (λ (z : List (ℕ × ℕ)). IsThere z c) y t)))
              (record { first = lm; second = ln; other = λ e. ne (sym e); norm = omega arith })
        ]

  -- words are joined, or they differ
  abbrev Tells : List ℕ → List ℕ → Type 0
  Tells u v = AreJoinedByHeads norms words u v ⊎ Differ rows u v

  -- any two words are joined by their heads, or they differ
  pub joined_or_differ : (k : ℕ) (u v : List ℕ) → WordBelow (length rows) u → WordBelow (length rows) v → total norms u ≤ k →
      Tells u v
  joined_or_differ k [] [] hu hv le = inl (AreJoinedByHeads.empty refl refl)
  joined_or_differ k [] (m ∷ v) hu hv le =
      let p = some_norm rows norms words range f m (All-head (λ k. k < length rows) m v hv) in
      inr (other_norm rows norms words range f [] (m ∷ v) hu hv (λ same. omega arith))
  joined_or_differ k (n ∷ u) [] hu hv le =
      let p = some_norm rows norms words range f n (All-head (λ k. k < length rows) n u hu) in
      inr (other_norm rows norms words range f (n ∷ u) [] hu hv (λ same. omega arith))
  joined_or_differ zero (n ∷ u) (m ∷ v) hu hv le =
      let p = some_norm rows norms words range f n (All-head (λ k. k < length rows) n u hu) in
      absurd (omega arith)
  joined_or_differ (suc k) (n ∷ u) (m ∷ v) hu hv le =
      let l = dropped_less norms words (length rows) residuals n m u v hu hv in
      let less = l.less in
      let rest = dropped norms words n u m v in
      elim (joined_or_differ k rest.0 rest.1 l.left l.right (omega arith)) [
        | inl j ↦ inl (AreJoinedByHeads.drops n m u v refl refl j)
        | inr d ↦ inr (dropped_differs n m u v hu hv d)
      ]

  -- words differ where those of a candidate do that they exchange
  exchanges_differ : (u v : List ℕ) → WordBelow (length rows) u → WordBelow (length rows) v → (c : ℕ × ℕ) →
      IsThere (exchanges norms words u v) c → CandidateDiffers rows norms words c → Differ rows u v
  unfolding exchanges
  exchanges_differ u v hu hv c t d = within (total norms u) u v hu hv t
    where
      within : (k : ℕ) (u v : List ℕ) → WordBelow (length rows) u → WordBelow (length rows) v →
          IsThere (exchanged_within norms words k u v) c → Differ rows u v
      within zero u v hu hv t = absurd (nothing_there c t)
      within (suc k) [] v hu hv t = absurd (nothing_there c t)
      within (suc k) (n ∷ u) [] hu hv t = absurd (nothing_there c t)
      within (suc k) (n ∷ u) (m ∷ v) hu hv t =
          let l = dropped_less norms words (length rows) residuals n m u v hu hv in
          let rest = dropped norms words n u m v in
          elim (there_either (exchanged norms n m) (exchanged_within norms words k rest.0 rest.1) c t) [
            | inl here ↦ exchanged_differs n m u v hu hv c here d
            | inr later ↦ dropped_differs n m u v hu hv (within k rest.0 rest.1 l.left l.right later)
          ]

  -- what they exchange is a candidate
  exchanges_are : (u v : List ℕ) → WordBelow (length rows) u → WordBelow (length rows) v → (c : ℕ × ℕ) →
      IsThere (exchanges norms words u v) c → IsCandidate (length rows) norms c
  unfolding exchanges
  exchanges_are u v hu hv c t = within (total norms u) u v hu hv t
    where
      within : (k : ℕ) (u v : List ℕ) → WordBelow (length rows) u → WordBelow (length rows) v →
          IsThere (exchanged_within norms words k u v) c → IsCandidate (length rows) norms c
      within zero u v hu hv t = absurd (nothing_there c t)
      within (suc k) [] v hu hv t = absurd (nothing_there c t)
      within (suc k) (n ∷ u) [] hu hv t = absurd (nothing_there c t)
      within (suc k) (n ∷ u) (m ∷ v) hu hv t =
          let l = dropped_less norms words (length rows) residuals n m u v hu hv in
          let rest = dropped norms words n u m v in
          elim (there_either (exchanged norms n m) (exchanged_within norms words k rest.0 rest.1) c t) [
            | inl here ↦ exchanged_is n m u v hu hv c here
            | inr later ↦ within k rest.0 rest.1 l.left l.right later
          ]

  -- a letter is a trace
  by_letter : (u x : List ℕ) (a : ℕ) → step rows u a ≡ Some x → after rows u (a ∷ []) ≡ Some x
  by_letter u x a e = ap (option_and_then (λ y. after rows y [])) e

  module _ (u v : List ℕ) (hu : WordBelow (length rows) u) (hv : WordBelow (length rows) v) where
    -- what a candidate becomes by a letter stays in range
    become_below : (c d : ℕ × ℕ) → IsCandidate (length rows) norms c → (n : Needs rows norms words c d) →
        WordBelow (length rows) n.left × WordBelow (length rows) n.right
    become_below c d is n =
        let low = (residual_lowered rows norms words range f c.0 c.1 is.second is.norm).below in
        let b = residual norms words c.0 c.1 in (
          trace_in_range rows norms words range f (n.letter ∷ []) (c.1 ∷ []) n.left
              (All-cons (λ k. k < length rows) c.1 [] is.second (All-nil (λ k. k < length rows)))
              (by_letter (c.1 ∷ []) n.left n.letter n.first),
          trace_in_range rows norms words range f (n.letter ∷ []) (c.0 ∷ b) n.right
              (All-cons (λ k. k < length rows) c.0 b is.first low)
              (by_letter (c.0 ∷ b) n.right n.letter n.second),
        )

    -- what is needed is a candidate
    pub needed_is : (c : ℕ × ℕ) → IsNeeded rows norms words u v c → IsCandidate (length rows) norms c
    needed_is c (IsNeeded.asked t) = exchanges_are u v hu hv c t
    needed_is c (IsNeeded.after d h n) =
        let b = become_below d c (needed_is d h) n in
        exchanges_are n.left n.right b.0 b.1 c n.there

    -- where its words differ, so do the two words
    pub needed_differs : (c : ℕ × ℕ) → IsNeeded rows norms words u v c → CandidateDiffers rows norms words c → Differ rows u v
    needed_differs c (IsNeeded.asked t) d = exchanges_differ u v hu hv c t d
    needed_differs c (IsNeeded.after e h n) d =
        let b = become_below e c (needed_is e h) n in
        needed_differs e h (after_trace rows (e.1 ∷ []) (e.0 ∷ residual norms words e.0 e.1) (n.letter ∷ []) n.left n.right
        (by_letter (e.1 ∷ []) n.left n.letter n.first)
        (by_letter (e.0 ∷ residual norms words e.0 e.1) n.right n.letter n.second)
        (exchanges_differ n.left n.right b.0 b.1 c n.there d))
