-- Norms, the words that lower them, and what isn't marked.
use Rattle.std.proofs.Common.{◌≡◌, ℕ, ◌-◌, List, [], ◌∷◌, refl, sym, ◌∙◌, ap, subst, arith, Some, None, Option, Bool, true, false, ◌&&◌, ◌||◌, ◌==◌, cond}
use Rattle.std.specs.Prelude.{is_some}
use Rattle.std.proofs.lemmas.Option.{get_or_from_slice_get}
use Rattle.fst_base.proofs.Bools.{and_parts}
use Rattle.fst_base.proofs.Lists.{same_items}
use Rattle.fst_words.specs.declared.rules.Rule.{Rule}
use Rattle.fst_words.specs.Marks.{has_marked, is_marked}
use Rattle.fst_words.specs.Words.{Productions, row_of}
use Rattle.fst_norms.specs.Norms.{IsNorm, IsNormOrNone}
use Rattle.fst_norms.specs.Bounds.{all_bounded, bound_at, total}
use Rattle.fst_norms.specs.Pruned.{AreUnnormed}
use Rattle.fst_norms.proofs.Laws.{least_of, never_empties}
use Rattle.fst_norms.specs.Lowering.{AreLowering, AreNorms, has_norm, lowering, word_of_norm}
use Rattle.fst_expand.specs.Trail.{AreUnmarked}

-- a non-terminal has one norm
one_norm : (rows : Productions) (n : ℕ) (a b : Option ℕ) → IsNormOrNone rows n a → IsNormOrNone rows n b → a ≡ b
one_norm rows n None None p q = refl
one_norm rows n None (Some k) p q = absurd (p q.reached.0 q.reached.1)
one_norm rows n (Some j) None p q = absurd (q p.reached.0 p.reached.1)
one_norm rows n (Some j) (Some k) p q = let a = least_of rows n j k p q in let b = least_of rows n k j q p in
    ap Some (let e : j ≡ k = omega arith in e)

pub same_norms : (rows : Productions) (a b : List (Option ℕ)) → AreNorms rows a → AreNorms rows b → a ≡ b
same_norms rows a b p q = same_items a b (p.count ∙ sym q.count) (λ n x y e f.
    sym (get_or_from_slice_get a n x None e) ∙ one_norm rows n (bound_at a n) (bound_at b n) (p.each n) (q.each n)
    ∙ get_or_from_slice_get b n y None f)

pub same_lowering : (rows : Productions) (norms : List (Option ℕ)) (a b : List (List ℕ)) → AreLowering rows norms a →
    AreLowering rows norms b → a ≡ b
same_lowering rows norms a b p q = same_items a b (p.count ∙ sym q.count) (λ n x y e f.
    sym (get_or_from_slice_get a n x [] e) ∙ p.each n ∙ sym (q.each n) ∙ get_or_from_slice_get b n y [] f)

-- a word whose non-terminals have norms has no marked one
bounded_unmarked : (marks : List Bool) (norms : List (Option ℕ)) →
    ((n k : ℕ) → bound_at norms n ≡ Some k → is_marked marks n ≡ false) →
    (w : List ℕ) → all_bounded norms w ≡ true → has_marked marks w ≡ false
bounded_unmarked marks norms h [] e = refl
bounded_unmarked marks norms h (n ∷ w) e =
    (elim (bound_at norms n) as (λ o. bound_at norms n ≡ o → (is_some o && all_bounded norms w) ≡ true →
    (is_marked marks n || has_marked marks w) ≡ false) [
      | None ↦ λ b f. cc
      | Some k ↦ λ b f. let first = h n k b in let rest = bounded_unmarked marks norms h w f in rw (first, rest) refl
    ]) refl e

word_unmarked : (marks : List Bool) (norms : List (Option ℕ)) →
    ((n k : ℕ) → bound_at norms n ≡ Some k → is_marked marks n ≡ false) → (k : ℕ) (rules : List Rule) →
    has_marked marks (word_of_norm norms k rules) ≡ false
word_unmarked marks norms h k [] = refl
word_unmarked marks norms h k (r ∷ rules) =
    (elim (has_norm norms k r.word) as (λ b. has_norm norms k r.word ≡ b →
    has_marked marks (cond b r.word (word_of_norm norms k rules)) ≡ false) [
      | true ↦ λ e. bounded_unmarked marks norms h r.word (and_parts (all_bounded norms r.word) (total norms r.word == k) e).0
      | false ↦ λ e. word_unmarked marks norms h k rules
    ]) refl

pub are_unmarked : (rows : Productions) (marks : List Bool) (norms : List (Option ℕ)) (words : List (List ℕ)) →
    AreUnnormed rows marks → AreNorms rows norms → AreLowering rows norms words →
    AreUnmarked marks norms words
are_unmarked rows marks norms words m n l =
    let normed : (i k : ℕ) → bound_at norms i ≡ Some k → is_marked marks i ≡ false = λ i k e. not_marked i k e in
    record {
      normed = normed;
      lowered = λ i. ap (has_marked marks) (l.each i) ∙ lowering_unmarked normed i (bound_at norms i);
    }
  where
    not_marked : (i k : ℕ) → bound_at norms i ≡ Some k → is_marked marks i ≡ false
    not_marked i k e =
        (elim (is_marked marks i) as (λ b. is_marked marks i ≡ b → b ≡ false) [
          | true ↦ λ is. absurd (
              let norm : IsNorm rows i k = subst (IsNormOrNone rows i) e (n.each i) in
              never_empties rows marks m.set (i ∷ []) norm.reached.0 (rw is refl) norm.reached.1)
          | false ↦ λ is. refl
        ]) refl

    lowering_unmarked : ((i k : ℕ) → bound_at norms i ≡ Some k → is_marked marks i ≡ false) →
        (i : ℕ) (o : Option ℕ) → has_marked marks (lowering norms (row_of rows i) o) ≡ false
    lowering_unmarked h i None = refl
    lowering_unmarked h i (Some k) = word_unmarked marks norms h (k - 1) (row_of rows i)
