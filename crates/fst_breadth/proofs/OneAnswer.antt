-- A question of two words within a budget has at most one answer.
use Rattle.std.proofs.Common.{◌≡◌, ◌∙◌, ℕ, ◌<◌, ◌≤◌, List, [], ◌∷◌, ◌++◌, length, Bool, Some, inl, inr, refl, sym, ap, subst, arith}
use Rattle.std.specs.Prelude.{map, slice_get, is_some}
use Rattle.std.proofs.lemmas.Bool.Decides.{leb_tells}
use Rattle.std.proofs.lemmas.Bool.{cases_lt}
use Rattle.std.proofs.lemmas.Option.{slice_get_within}
use Rattle.std.proofs.lemmas.List.{length-map}
use Rattle.fst_base.proofs.Lists.{get_there, same_items}
use Rattle.fst_types.specs.declared.label.Label.{Label}
use Rattle.fst_types.specs.declared.side.Side.{Side}
use Rattle.fst_types.specs.declared.side.Side.TheVariants.{Left, Right}
use Rattle.fst_words.specs.Words.{Productions, step}
use Rattle.fst_shared.specs.declared.handle.SharedPair.{SharedPair}
use Rattle.fst_breadth.specs.Reached.{ReachedPair, AreFirst, AreAll}
use Rattle.fst_breadth.specs.Answer.{pair_of, IsAlone, IsFirstDifference, IsLabelTrace, IsEqual, IsDifferent, IsBudgetSpent, equal, differ, spent, OneAnswer}
use Rattle.fst_breadth.proofs.Determined.{same_entries}
use Rattle.fst_breadth.proofs.RowLaws.{not_alone}

-- a list of pairs is as long as the list that it was taken from
length-pairs : (found : List ReachedPair) (pairs : List SharedPair) → map pair_of found ≡ pairs → length found ≡ length pairs
length-pairs found pairs e = sym (length-map found pair_of) ∙ ap length e

-- at most one side's test holds alone
one_side : (s t : Side) (p q : Bool) → IsAlone s p q → IsAlone t p q → s ≡ t
one_side Left Left p q a b = refl
one_side Left Right p q a b = absurd (let x = a.0 in let y = b.0 in cc)
one_side Right Left p q a b = absurd (let x = a.0 in let y = b.0 in cc)
one_side Right Right p q a b = refl

-- what is there is one
same_there : (v w : List Label) → map Some v ≡ map Some w → v ≡ w
same_there [] [] e = refl
same_there [] (b ∷ w) e = absurd (cc e)
same_there (a ∷ v) [] e = absurd (cc e)
same_there (a ∷ v) (b ∷ w) e =
    let first : a ≡ b = cc in
    let behind : map Some v ≡ map Some w = cc in
    let rest : v ≡ w = same_there v w behind in
    λ i. first i ∷ rest i

-- a trace of letters stands for one trace of labels
one_trace : (letters : List Label) (numbers : List ℕ) (v w : List Label) → IsLabelTrace letters numbers v →
    IsLabelTrace letters numbers w → v ≡ w
one_trace letters numbers v w h k = same_there v w (sym h ∙ k)

module _ (rows : Productions) (x y : List ℕ) (a b : ℕ) (s t : Side) (d : IsFirstDifference rows x y a s)
    (e : IsFirstDifference rows x y b t) where
  not_less : a < b → ⊥
  not_less lt = not_alone s (is_some (step rows x a)) (is_some (step rows y a)) d.here (e.less a lt)

  not_greater : b < a → ⊥
  not_greater lt = not_alone t (is_some (step rows x b)) (is_some (step rows y b)) e.here (d.less b lt)

  -- two words have one first difference
  one_letter : a ≡ b
  one_letter = elim (cases_lt a b) [
    | inl lt ↦ absurd (not_less lt)
    | inr ge ↦ elim (cases_lt b a) [ inl gt ↦ absurd (not_greater gt) | inr le ↦ omega arith ]
  ]

  one_owner : s ≡ t
  one_owner =
      one_side s t (is_some (step rows x a)) (is_some (step rows y a)) d.here
      (subst (λ n. IsAlone t (is_some (step rows x n)) (is_some (step rows y n))) (sym one_letter) e.here)

module _ (rows : Productions) (marks : List Bool) (u v : List ℕ) where
  -- no list of first pairs is longer than one of all pairs
  not_longer : (E F : List ReachedPair) → AreFirst rows marks u v E → AreAll rows marks u v E → AreFirst rows marks u v F →
      length F ≤ length E
  not_longer E F a all b = elim (leb_tells (length F) (length E)) [
    | inl le ↦ le.1
    | inr lt ↦
        let less = lt.1 in
        let f = get_there F (length E) less in
        let l = all f.0.trace f.0.left f.0.right (b.reached (length E) f.0 f.1) in
        let within = slice_get_within E l.at l.entry l.there in
        let c = get_there F l.at (omega arith) in
        let same : l.entry ≡ c.0 = same_entries rows marks u v E F a b l.at l.entry c.0 l.there c.1 in
        absurd (b.once l.at (length E) c.0 f.0 within c.1 f.1 (ap (λ (z : ReachedPair). z.left) (sym same) ∙ l.left)
        (ap (λ (z : ReachedPair). z.right) (sym same) ∙ l.right))
  ]

  -- lists of first pairs as long as one another have the same pairs
  same_pairs : (E F : List ReachedPair) (pairs others : List SharedPair) → AreFirst rows marks u v E → AreFirst rows marks u v F →
      length E ≡ length F →
      map pair_of E ≡ pairs → map pair_of F ≡ others → pairs ≡ others
  same_pairs E F pairs others a b len e f = sym e ∙ ap (map pair_of) (same_items E F len (same_entries rows marks u v E F a b))
      ∙ f

  module _ (budget : ℕ) where
    two_equal : (pairs others : List SharedPair) → IsEqual rows marks u v budget pairs → IsEqual rows marks u v budget others →
        pairs ≡ others
    two_equal pairs others p q =
        let le = not_longer p.found q.found p.first p.all q.first in
        let ge = not_longer q.found p.found q.first q.all p.first in
        same_pairs p.found q.found pairs others p.first q.first (omega arith) p.pairs_are q.pairs_are

    two_spent : (pairs others : List SharedPair) → IsBudgetSpent rows marks u v budget pairs →
        IsBudgetSpent rows marks u v budget others → pairs ≡ others
    two_spent pairs others p q =
        let m = length-pairs p.found pairs p.pairs_are in
        let n = length-pairs q.found others q.pairs_are in
        let i = p.full in
        let j = q.full in
        same_pairs p.found q.found pairs others p.first q.first (omega arith) p.pairs_are q.pairs_are

    -- a first difference isn't at a pair before the other
    not_before : (letters v1 v2 : List Label) (s t : Side) (p : IsDifferent rows marks letters u v budget v1 s)
        (q : IsDifferent rows marks letters u v budget v2 t) → p.at < q.at → ⊥
    not_before letters v1 v2 s t p q lt =
        let d = p.difference in
        let within = slice_get_within q.found q.at q.difference.entry q.difference.there in
        let c = get_there q.found p.at (omega arith) in
        let same : d.entry ≡ c.0 = same_entries rows marks u v p.found q.found p.first q.first p.at d.entry c.0 d.there c.1 in
        not_alone s (is_some (step rows d.entry.left d.letter)) (is_some (step rows d.entry.right d.letter)) d.differs.here
        (subst (λ (z : ReachedPair). is_some (step rows z.left d.letter) ≡ is_some (step rows z.right d.letter)) (sym same)
        (q.before p.at c.0 lt c.1 d.letter))

    two_different : (letters v1 v2 : List Label) (s t : Side) → IsDifferent rows marks letters u v budget v1 s →
        IsDifferent rows marks letters u v budget v2 t → (v1 ≡ v2) × (s ≡ t)
    two_different letters v1 v2 s t p q =
        let place : p.at ≡ q.at = elim (cases_lt p.at q.at) [
          | inl lt ↦ absurd (not_before letters v1 v2 s t p q lt)
          | inr ge ↦ elim (cases_lt q.at p.at) [ inl gt ↦ absurd (not_before letters v2 v1 t s q p gt) | inr le ↦ omega arith ]
        ] in
        let d = p.difference in
        let e = q.difference in
        let entry : d.entry ≡ e.entry = same_entries rows marks u v p.found q.found p.first q.first p.at d.entry e.entry d.there
        (ap (slice_get q.found) place ∙ e.there) in
        let other : IsFirstDifference rows d.entry.left d.entry.right e.letter t = subst
        (λ (z : ReachedPair). IsFirstDifference rows z.left z.right e.letter t) (sym entry) e.differs in
        let letter : d.letter ≡ e.letter = one_letter rows d.entry.left d.entry.right d.letter e.letter s t d.differs other in
        let labels : IsLabelTrace letters (d.entry.trace ++ d.letter ∷ []) v2 = subst (λ n. IsLabelTrace letters n v2)
        (λ i. (sym entry i).trace ++ sym letter i ∷ []) e.labels in (
          one_trace letters (d.entry.trace ++ d.letter ∷ []) v1 v2 d.labels labels,
          one_owner rows d.entry.left d.entry.right d.letter e.letter s t d.differs other,
        )

    -- all pairs show no difference, or one does
    not_equal_and_different : (letters : List Label) (pairs : List SharedPair) (trace : List Label) (side : Side) →
        IsEqual rows marks u v budget pairs → IsDifferent rows marks letters u v budget trace side → ⊥
    not_equal_and_different letters pairs trace side p q =
        let d = q.difference in
        let l = p.all d.entry.trace d.entry.left d.entry.right (q.first.reached q.at d.entry d.there) in
        not_alone side (is_some (step rows d.entry.left d.letter)) (is_some (step rows d.entry.right d.letter)) d.differs.here
        (ap (λ (z : List ℕ). is_some (step rows z d.letter)) (sym l.left) ∙ p.alike l.at l.entry l.there d.letter ∙ ap
        (λ (z : List ℕ). is_some (step rows z d.letter)) l.right)

    module _ (pairs : List SharedPair) (p : IsBudgetSpent rows marks u v budget pairs) where
      -- an entry of a list of at most as many first pairs as the budget is in the spent one
      in_spent : (found : List ReachedPair) (at : ℕ) (e : ReachedPair) → AreFirst rows marks u v found → length found ≤ budget →
          slice_get found at ≡ Some e → slice_get p.found at ≡ Some e
      in_spent found at e first within there =
          let below = slice_get_within found at e there in
          let full = p.full in
          let count = length-pairs p.found pairs p.pairs_are in
          let other = get_there p.found at (omega arith) in
          let same = same_entries rows marks u v found p.found first p.first at e other.0 there other.1 in
          other.1 ∙ ap Some (sym same)

      -- all pairs are within the budget, or there is one behind them
      not_equal_and_spent : (others : List SharedPair) → IsEqual rows marks u v budget others → ⊥
      not_equal_and_spent others q =
          let more = p.more in
          let listed = q.all more.s more.x more.y more.reached in
          let count = length-pairs q.found others q.pairs_are in
          let within = q.within in
          let there = in_spent q.found listed.at listed.entry q.first (omega arith) listed.there in
          more.other listed.at listed.entry there listed.left listed.right

      -- one of the first pairs shows a difference, or none does
      not_different_and_spent : (letters trace : List Label) (side : Side) →
          IsDifferent rows marks letters u v budget trace side → ⊥
      not_different_and_spent letters trace side q =
          let d = q.difference in
          let there = in_spent q.found q.at d.entry q.first q.within d.there in
          not_alone side (is_some (step rows d.entry.left d.letter)) (is_some (step rows d.entry.right d.letter)) d.differs.here
          (p.alike q.at d.entry there d.letter)

pub one_answer : OneAnswer
one_answer rows marks letters u v budget (equal p) (equal q) a b = ap equal (two_equal rows marks u v budget p q a b)
one_answer rows marks letters u v budget (equal p) (differ w t) a b =
    absurd (not_equal_and_different rows marks u v budget letters p w t a b)
one_answer rows marks letters u v budget (equal p) (spent q) a b = absurd (not_equal_and_spent rows marks u v budget q b p a)
one_answer rows marks letters u v budget (differ w t) (equal q) a b =
    absurd (not_equal_and_different rows marks u v budget letters q w t b a)
one_answer rows marks letters u v budget (differ w s) (differ x t) a b =
    let same = two_different rows marks u v budget letters w x s t a b in
    λ i. differ (same.0 i) (same.1 i)
one_answer rows marks letters u v budget (differ w t) (spent q) a b =
    absurd (not_different_and_spent rows marks u v budget q b letters w t a)
one_answer rows marks letters u v budget (spent p) (equal q) a b = absurd (not_equal_and_spent rows marks u v budget p a q b)
one_answer rows marks letters u v budget (spent p) (differ w t) a b =
    absurd (not_different_and_spent rows marks u v budget p a letters w t b)
one_answer rows marks letters u v budget (spent p) (spent q) a b = ap spent (two_spent rows marks u v budget p q a b)
