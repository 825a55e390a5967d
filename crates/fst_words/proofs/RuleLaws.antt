-- What is found among rules in order.
use Rattle.std.proofs.Common.{◌≡◌, ◌≢◌, ℕ, zero, suc, ◌<◌, ◌≤◌, List, [], ◌∷◌, length, get_or, Bool, true, false, Option, Some, None, Result, Ok, Err, IfOk, IfErr, refl, sym, ap, arith, ◌∙◌, ◌==◌, inl, inr, if◌then◌else◌}
use Rattle.std.specs.List.Sorted.{IsSearchInRange, IsBinarySearchResult, IsNonDecreasingBy}
use Rattle.std.specs.Ordering.{nat_cmp, ordering_index}
use Rattle.std.proofs.lemmas.Cmp.{ranked}
use Rattle.std.proofs.lemmas.List.Sorted.{IsNonDecreasingBy-from_default}
use Rattle.std.proofs.lemmas.Bool.{eqb-true, eq-eqb, cases_lt}
use Rattle.std.proofs.lemmas.Bool.Decides.{nat_tests}
use Rattle.fst_words.specs.declared.rules.Rule.{Rule}
use Rattle.fst_words.specs.Ordered.{IsAbove, AreOrdered}
use Rattle.fst_words.specs.Words.{rule_of}

above_all : (rules : List Rule) (b : ℕ) → IsAbove b rules → AreOrdered rules →
    (i : ℕ) (d : Rule) → i < length rules → b < (get_or rules i d).letter
above_all [] b up o i d lt = absurd (omega arith)
above_all (r ∷ rules) b up o zero d lt = up
above_all (r ∷ rules) b up o (suc i) d lt =
    let rest = above_all rules r.letter o.0 o.1 i d (omega arith) in
    let first : b < r.letter = up in
    omega arith

-- the letters rise
rising : (rules : List Rule) → AreOrdered rules → (i j : ℕ) (d : Rule) → i < j → j < length rules →
    (get_or rules i d).letter < (get_or rules j d).letter
rising [] o i j d lt within = absurd (omega arith)
rising (r ∷ rules) o i zero d lt within = absurd (omega arith)
rising (r ∷ rules) o zero (suc j) d lt within = above_all rules r.letter o.0 o.1 j d (omega arith)
rising (r ∷ rules) o (suc i) (suc j) d lt within = rising rules o.1 i j d (omega arith) (omega arith)

pick : (r : Rule) (a : ℕ) (next : Option (List ℕ)) (c : Bool) → r.letter == a ≡ c → r.letter ≢ a →
    (if c then Some r.word else next) ≡ next
pick r a next true e differs = absurd (differs (eqb-true r.letter a e))
pick r a next false e differs = refl

absent : (rules : List Rule) (a : ℕ) → ((j : ℕ) (d : Rule) → j < length rules → (get_or rules j d).letter ≢ a) →
    rule_of rules a ≡ None
absent [] a h = refl
absent (r ∷ rules) a h = pick r a (rule_of rules a) (r.letter == a) refl (h 0 r (omega arith)) ∙ absent rules a
    (λ j d lt. h (suc j) d (omega arith))

taken : (r : Rule) (a : ℕ) (next : Option (List ℕ)) (c : Bool) → r.letter == a ≡ c → r.letter ≡ a →
    (if c then Some r.word else next) ≡ Some r.word
taken r a next true e same = refl
taken r a next false e same = absurd (cc (sym e ∙ eq-eqb r.letter a same))

pub present : (rules : List Rule) (a i : ℕ) (d : Rule) → AreOrdered rules → i < length rules →
    (get_or rules i d).letter ≡ a → rule_of rules a ≡ Some (get_or rules i d).word
present [] a i d o lt same = absurd (omega arith)
present (r ∷ rules) a zero d o lt same = taken r a (rule_of rules a) (r.letter == a) refl same
present (r ∷ rules) a (suc i) d o lt same =
    let above = above_all rules r.letter o.0 o.1 i d (omega arith) in
    let differs : r.letter ≢ a = λ e. omega arith in
    pick r a (rule_of rules a) (r.letter == a) refl differs ∙ present rules a i d o.1 (omega arith) same

module _ (rules : List Rule) (o : AreOrdered rules) (a : ℕ) (d : Rule) where
  comparisons_rise : IsNonDecreasingBy (λ r. ordering_index (nat_cmp r.letter a)) rules
  comparisons_rise = IsNonDecreasingBy-from_default (λ r. ordering_index (nat_cmp r.letter a)) rules d (λ i j le within.
      let up : (get_or rules i d).letter ≤ (get_or rules j d).letter =
      grind (arith, rising rules o i j d, λ (same : i ≡ j). ap (λ k. (get_or rules k d).letter) same) in
      grind (arith, nat_tests))

  -- where a binary search by letter ends
  pub searched : (r : Result ℕ ℕ) → IsSearchInRange r (length rules) → IsBinarySearchResult (λ x. nat_cmp x.letter a) rules r →
      IfOk r (λ at. rule_of rules a ≡ Some (get_or rules at d).word) × IfErr r (λ at. rule_of rules a ≡ None)
  searched (Ok at) within equal = (present rules a at d o within (ranked _ a _ (sym (equal d))), tt)
  searched (Err at) within parted = (
    tt,
    absent rules a (λ j e lt same. elim (cases_lt j at) [
      | inl before ↦ let below = ranked _ a _ (sym ((parted comparisons_rise).0 j e (omega arith) before)) in omega arith
      | inr behind ↦ let above = ranked _ a _ (sym ((parted comparisons_rise).1 j e behind lt)) in omega arith
    ]),
  )
