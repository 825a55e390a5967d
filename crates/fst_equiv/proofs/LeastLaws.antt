-- Two types have at most one least difference, and none where they agree.
use Rattle.std.proofs.Common.{◌≡◌, ◌∙◌, ◌⊎◌, ◌↔◌, inl, inr, ⊎_elim, List, [], ◌∷◌, length, refl, sym, ap, subst, arith}
use Rattle.std.specs.declared.cmp.Ordering.{Ordering}
use Rattle.std.specs.declared.cmp.Ordering.TheVariants.{Less, Equal, Greater}
use Rattle.std.specs.Ordering.{ordering_then, ordering_reverse, is_eq}
use Rattle.std.specs.Cmp.Lexicographic.{slice_cmp}
use Rattle.std.proofs.lemmas.Cmp.{lists_total}
use Rattle.std.proofs.lemmas.Bool.{cases_lt}
use Rattle.fst_types.specs.Tree.{Tree}
use Rattle.fst_types.specs.Order.{label_cmp}
use Rattle.fst_types.specs.declared.label.Label.{Label}
use Rattle.fst_types.specs.declared.side.Side.{Side}
use Rattle.fst_types.specs.declared.side.Side.TheVariants.{Left, Right}
use Rattle.fst_types.proofs.Laws.{same_label-same, label_cmp_total}
use Rattle.fst_lts.specs.Step.{step}
use Rattle.fst_base.specs.Agreement.{Performs, Agree}
use Rattle.fst_base.specs.Order.{IsBefore}
use Rattle.fst_types.specs.Differences.{PerformsAlone, IsLeastDistinguishingTrace}
use Rattle.fst_equiv.specs.Answers.{no}
use Rattle.fst_base.proofs.TraceLaws.{agree_is_traces}

-- ---- the order of words is total

-- two comparisons in a row find nothing only where neither does
both_equal : (o p : Ordering) → ordering_then o p ≡ Equal → (o ≡ Equal) × (p ≡ Equal)
both_equal Less p e = absurd (cc e)
both_equal Equal p e = (refl, e)
both_equal Greater p e = absurd (cc e)

-- words that the order tells not apart are one
equal_words : (v w : List Label) → slice_cmp label_cmp v w ≡ Equal → v ≡ w
equal_words [] [] e = refl
equal_words [] (b ∷ w) e = absurd (cc e)
equal_words (a ∷ v) [] e = absurd (cc e)
equal_words (a ∷ v) (b ∷ w) e =
    let both = both_equal (label_cmp a b) (slice_cmp label_cmp v w) e in
    λ i. same_label-same a b (ap is_eq both.0) i ∷ equal_words v w both.1 i

-- of two words one is before the other, or they are one
one_before : (v w : List Label) → IsBefore label_cmp v w ⊎ ((v ≡ w) ⊎ IsBefore label_cmp w v)
one_before v w = ⊎_elim (λ lt. inl (inl lt)) (λ le. ⊎_elim (λ gt. inr (inr (inl gt)))
    (λ ge. by_labels (omega arith) (slice_cmp label_cmp v w) refl) (cases_lt (length w) (length v)))
    (cases_lt (length v) (length w))
  where
    by_labels : length v ≡ length w → (o : Ordering) → slice_cmp label_cmp v w ≡ o → IsBefore label_cmp v w ⊎
        ((v ≡ w) ⊎ IsBefore label_cmp w v)
    by_labels same Less e = inl (inr (same, e))
    by_labels same Equal e = inr (inl (equal_words v w e))
    by_labels same Greater e = inr (inr (inr (sym same, (lists_total label_cmp_total).antisymm w v ∙ ap ordering_reverse e)))

-- ---- one difference

-- one side alone doesn't perform a word that both perform or neither
not_both : (s r : Tree) (w : List Label) (side : Side) → PerformsAlone step step s r w side →
    (Performs step s w ↔ Performs step r w) → ⊥
not_both s r w Left only same = only.1 (same.0 only.0)
not_both s r w Right only same = only.1 (same.1 only.0)

-- at most one side alone performs a word
one_side : (s r : Tree) (w : List Label) (x y : Side) → PerformsAlone step step s r w x → PerformsAlone step step s r w y → x ≡ y
one_side s r w Left Left p q = refl
one_side s r w Left Right p q = absurd (p.1 q.0)
one_side s r w Right Left p q = absurd (p.1 q.0)
one_side s r w Right Right p q = refl

-- at most one word is the least difference
one_word : (s r : Tree) (v w : List Label) (x y : Side) → IsLeastDistinguishingTrace step step label_cmp s r v x →
    IsLeastDistinguishingTrace step step label_cmp s r w y → v ≡ w
one_word s r v w x y p q = ⊎_elim
    (λ before. absurd (not_both s r v x p.alone (q.least v before)))
    (λ other. ⊎_elim (λ same. same) (λ after. absurd (not_both s r w y q.alone (p.least w after))) other)
    (one_before v w)

-- two answers by a least difference are one
pub one_no : (s r : Tree) (v w : List Label) (x y : Side) → IsLeastDistinguishingTrace step step label_cmp s r v x →
    IsLeastDistinguishingTrace step step label_cmp s r w y → no v x ≡ no w y
one_no s r v w x y p q =
    let word = one_word s r v w x y p q in
    let side = one_side s r w x y (subst (λ z. PerformsAlone step step s r z x) word p.alone) q.alone in
    λ i. no (word i) (side i)

-- types that agree have no difference
pub not_yes_and_no : (s r : Tree) (w : List Label) (side : Side) → Agree step step s r →
    IsLeastDistinguishingTrace step step label_cmp s r w side → ⊥
not_yes_and_no s r w side agree d =
    not_both s r w side d.alone ((agree_is_traces step step (length w) s r).0 (agree (length w)) w (omega arith))
