-- The norms of a normed grammar, and the words that lower them.
use Rattle.std.proofs.Common.{◌≡◌, ◌-◌, ◌<◌, ◌≤◌, ℕ, suc, List, [], ◌∷◌, ◌++◌, length, append-nil, refl, sym, ◌∙◌, ap, subst, arith, Option, Some, None, true, false, ◌==◌, cond, min}
use Rattle.std.specs.Prelude.{option_and_then, option_map, unwrap_or}
use Rattle.std.proofs.lemmas.Bool.{eqb-true, eq-eqb}
use Rattle.std.proofs.lemmas.Bool.Decides.{eqb_tells}
use Rattle.std.proofs.lemmas.List.Elements.{All-head, All-tail}
use Rattle.std.proofs.Common.{inl, inr}
use Rattle.fst_base.specs.Limits.{greatest_norm}
use Rattle.fst_base.proofs.Bools.{and_parts}
use Rattle.fst_words.specs.declared.rules.Rule.{Rule}
use Rattle.fst_words.specs.Ordered.{AreOrdered}
use Rattle.fst_words.specs.Words.{Productions, WordBelow, after, row_of, rule_of}
use Rattle.fst_words.proofs.Laws.{row_in_range, rule_within}
use Rattle.fst_norms.specs.Norms.{Empties, IsNorm, IsNormOrNone}
use Rattle.fst_norms.specs.Bounds.{IsSound, all_bounded, bound_at, total}
use Rattle.fst_norms.proofs.Laws.{after_rule, norm_there, rule_of-above, sound_word, total-append}
use Rattle.fst_norms.specs.Lowering.{has_norm, lowered_to, lowering, word_of_norm}
use Rattle.fst_norms.specs.Bounds.{norm_of}
use Rattle.fst_normed.specs.Normed.{IsNormedGrammar}
use Rattle.fst_normed.proofs.WeightLaws.{AreWeights, few_by_trace}

-- the word of the first rule whose word has a norm, where there is such a rule
pub word_found : (norms : List (Option ℕ)) (k : ℕ) (rules : List Rule) (a : ℕ) (v : List ℕ) → AreOrdered rules →
    rule_of rules a ≡ Some v → has_norm norms k v ≡ true →
    (b : ℕ) × (rule_of rules b ≡ Some (word_of_norm norms k rules)) × (has_norm norms k (word_of_norm norms k rules) ≡ true)
word_found norms k [] a v up e h = cc
word_found norms k (r ∷ rules) a v up e h =
    (elim (has_norm norms k r.word) as (λ t. has_norm norms k r.word ≡ t →
    (b : ℕ) × (rule_of (r ∷ rules) b ≡ Some (cond t r.word (word_of_norm norms k rules))) ×
    (has_norm norms k (cond t r.word (word_of_norm norms k rules)) ≡ true)) [
      | true ↦ λ t. (r.letter, rw (eq-eqb r.letter r.letter refl) refl, t)
      | false ↦ λ t.
          elim (eqb_tells r.letter a) [
            | inl p ↦ absurd (
                let hit : rule_of (r ∷ rules) a ≡ Some r.word = rw p.0 refl in
                let same : r.word ≡ v = (let f : Some r.word ≡ Some v = sym hit ∙ e in cc) in
                let no : false ≡ true = sym t ∙ ap (has_norm norms k) same ∙ h in
                cc)
            | inr p ↦
                let later : rule_of rules a ≡ Some v = rw p.0 at e in
                let q = word_found norms k rules a v up.1 later h in
                let lt : r.letter < q.0 = rule_of-above rules r.letter q.0 (word_of_norm norms k rules) up.0 up.1 q.1 in
                elim (eqb_tells r.letter q.0) [
                  | inl s ↦ absurd (let same = s.1 in omega arith)
                  | inr s ↦ (q.0, rw s.0 q.1, q.2)
                ]
          ]
    ]) refl

module _ (rows : Productions) (norms : List (Option ℕ)) (words : List (List ℕ)) (g : IsNormedGrammar rows norms words) where
  sound : IsSound rows norms
  sound n k e = (subst (IsNormOrNone rows n) e (g.are_norms.each n)).reached

  norm_is : (n k : ℕ) → bound_at norms n ≡ Some k → norm_of norms n ≡ k
  norm_is n k e = ap (λ o. unwrap_or o 0) e

  bounded : (v : List ℕ) → WordBelow (length rows) v → all_bounded norms v ≡ true
  bounded [] h = refl
  bounded (n ∷ v) h =
      let p = norm_there rows norms g.normed g.are_norms n (All-head (λ k. k < length rows) n v h) in
      let rest = bounded v (All-tail (λ k. k < length rows) n v h) in
      rw (p.1, rest) refl

  few : (n a : ℕ) (v : List ℕ) → rule_of (row_of rows n) a ≡ Some v → norm_of norms n ≤ suc (total norms v)
  few n a v r =
      let p = norm_there rows norms g.normed g.are_norms n (rule_within rows n a v r) in
      let is = norm_is n p.0 p.1 in
      let small = p.2 in
      let s = sound_word rows norms sound v (bounded v (row_in_range rows n a v g.range r)) in
      let len = s.2 in
      let least = p.3.least (a ∷ s.0) (after_rule rows n a v [] s.0 r ∙ ap (λ (w : List ℕ). after rows w s.0) (append-nil v)
      ∙ s.1) in
      omega arith

  lowers : (n : ℕ) → n < length rows → (a : ℕ) × (rule_of (row_of rows n) a ≡ Some (lowered_to words n)) ×
      (norm_of norms n ≡ suc (total norms (lowered_to words n)))
  lowers n lt = first p.3.reached.0 p.3.reached.1 p.3.reached.2
    where
      p : (k : ℕ) × (bound_at norms n ≡ Some k) × (k < greatest_norm) × IsNorm rows n k
      p = norm_there rows norms g.normed g.are_norms n lt

      by_rule : (k a : ℕ) (v : List ℕ) → bound_at norms n ≡ Some k → rule_of (row_of rows n) a ≡ Some v →
          k ≡ suc (total norms v) →
          (b : ℕ) × (rule_of (row_of rows n) b ≡ Some (lowered_to words n)) ×
          (norm_of norms n ≡ suc (total norms (lowered_to words n)))
      by_rule k a v at r sum =
          let less : k - 1 ≡ total norms v = omega arith in
          let test : total norms v == (k - 1) ≡ true = eq-eqb (total norms v) (k - 1) (sym less) in
          let all = bounded v (row_in_range rows n a v g.range r) in
          let has : has_norm norms (k - 1) v ≡ true = rw (all, test) refl in
          let q = word_found norms (k - 1) (row_of rows n) a v (g.ordered n) r has in
          let is : lowered_to words n ≡ word_of_norm norms (k - 1) (row_of rows n) = g.lowering.each n
          ∙ ap (lowering norms (row_of rows n)) at in
          let b = and_parts (all_bounded norms (word_of_norm norms (k - 1) (row_of rows n)))
          (total norms (word_of_norm norms (k - 1) (row_of rows n)) == (k - 1)) q.2 in
          let norm = eqb-true (total norms (word_of_norm norms (k - 1) (row_of rows n))) (k - 1) b.1 in
          let here = norm_is n k at in
          let t = ap (total norms) is in
          (q.0, q.1 ∙ ap Some (sym is), omega arith)

      first : (s : List ℕ) → Empties rows (n ∷ []) s → p.0 ≡ min (length s) greatest_norm →
          (b : ℕ) × (rule_of (row_of rows n) b ≡ Some (lowered_to words n)) ×
          (norm_of norms n ≡ suc (total norms (lowered_to words n)))
      first [] e len = absurd (cc e)
      first (a ∷ s) e len =
          (elim (rule_of (row_of rows n) a) as (λ o. rule_of (row_of rows n) a ≡ o → option_and_then
          (λ y. after rows y s) (option_map (λ v. v ++ []) o) ≡ Some [] →
          (b : ℕ) × (rule_of (row_of rows n) b ≡ Some (lowered_to words n)) ×
          (norm_of norms n ≡ suc (total norms (lowered_to words n)))) [
            | None ↦ λ r e. absurd (cc e)
            | Some v ↦ λ r e.
                let small = p.2 in
                let is = norm_is n p.0 p.1 in
                let most = few_by_trace rows norms few s (v ++ []) [] e in
                let sum = total-append norms v [] in
                let least = few n a v r in
                by_rule p.0 a v p.1 r (omega arith)
          ]) refl e

  pub weights : AreWeights rows norms words
  weights = record { few = few; lowers = lowers }
