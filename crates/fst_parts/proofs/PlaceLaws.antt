-- Where a label stands in a rising list, or goes.
use Rattle.std.proofs.Common.{◌≡◌, ◌∙◌, ◌<◌, ◌≤◌, refl, sym, ap, subst, arith, ℕ, zero, suc, List, [], ◌∷◌, ◌++◌, length, take, drop, get_or, Bool, true, false, Result, Ok, Err}
use Rattle.std.specs.Prelude.{if◌then◌else◌}
use Rattle.std.specs.declared.cmp.Ordering.{Ordering}
use Rattle.std.specs.declared.cmp.Ordering.TheVariants.{Less, Equal, Greater}
use Rattle.std.specs.Ordering.{is_eq, ordering_index, ordering_reverse}
use Rattle.std.specs.List.Sorted.{IsBinarySearchResult, IsNonDecreasingBy, IsSearchInRange}
use Rattle.fst_types.specs.Order.{label_cmp}
use Rattle.fst_types.specs.declared.label.Label.{Label}
use Rattle.fst_types.proofs.Laws.{label_cmp_total}
use Rattle.fst_base.specs.Order.{IsRising}
use Rattle.fst_parts.specs.Labels.{is_name, names, label_position}
use Rattle.fst_parts.specs.Letters.{with_label, with_label_by, IsPlaceFor}
use Rattle.fst_parts.proofs.LabelLaws.{equal_same}
use Rattle.fst_base.proofs.Orders.{rising_tail}

other_way : (x y : Label) (o : Ordering) → label_cmp x y ≡ o → label_cmp y x ≡ ordering_reverse o
other_way x y o e = label_cmp_total.antisymm y x ∙ ap ordering_reverse e

-- a label is before each of those behind it
before_all : (b : Label) (letters : List Label) → IsRising label_cmp (b ∷ letters) →
    (j : ℕ) (d : Label) → j < length letters → label_cmp b (get_or letters j d) ≡ Less
before_all b [] h j d lt = absurd (omega arith)
before_all b (c ∷ letters) h zero d lt = h.0
before_all b (c ∷ letters) h (suc j) d lt = label_cmp_total.trans b c (get_or letters j d) h.0
    (before_all c letters h.1 j d (omega arith))

-- a greater label is no lower against a third one
no_lower : (x y a : Label) → label_cmp x y ≡ Less → ordering_index (label_cmp x a) ≤ ordering_index (label_cmp y a)
no_lower x y a h = pick (label_cmp x a) refl (label_cmp y a) refl
  where
    pick : (o : Ordering) → label_cmp x a ≡ o → (p : Ordering) → label_cmp y a ≡ p → ordering_index o ≤ ordering_index p
    pick Less e p f = omega arith
    pick Equal e Less f = absurd (cc (sym (label_cmp_total.congr x a y e) ∙ h, other_way y a Less f))
    pick Equal e Equal f = omega arith
    pick Equal e Greater f = omega arith
    pick Greater e Less f = absurd (cc (sym e ∙ label_cmp_total.trans x y a h f))
    pick Greater e Equal f = absurd (cc (sym (other_way x y Less h) ∙ label_cmp_total.congr y a x f, other_way x a Greater e))
    pick Greater e Greater f = omega arith

rises : (letters : List Label) (a : Label) → IsRising label_cmp letters → IsNonDecreasingBy
    (λ y. ordering_index (label_cmp y a)) letters
rises [] a h i j d le lt = absurd (omega arith)
rises (b ∷ letters) a h zero zero d le lt = omega arith
rises (b ∷ letters) a h zero (suc j) d le lt = no_lower b (get_or letters j d) a (before_all b letters h j d (omega arith))
rises (b ∷ letters) a h (suc i) zero d le lt = absurd (omega arith)
rises (b ∷ letters) a h (suc i) (suc j) d le lt =
    rises letters a (rising_tail label_cmp b letters h) i j d (omega arith) (omega arith)

-- a greater label is passed
past_lesser : (a b : Label) (letters : List Label) → label_cmp b a ≡ Less →
    (label_position (b ∷ letters) a ≡ suc (label_position letters a)) × (with_label (b ∷ letters) a ≡ b ∷ with_label letters a)
past_lesser a b letters e =
    let f : label_cmp a b ≡ Greater = other_way b a Less e in (
      ap (λ o. if is_eq o then 0 else suc (label_position letters a)) f,
      ap (λ o. with_label_by o a b letters (with_label letters a)) f,
    )

here : (letters : List Label) (a : Label) → IsRising label_cmp letters → (i : ℕ) → i < length letters →
    ((d : Label) → label_cmp (get_or letters i d) a ≡ Equal) → (label_position letters a ≡ i) × (with_label letters a ≡ letters)
here [] a h i lt e = absurd (omega arith)
here (b ∷ letters) a h zero lt e =
    let f : label_cmp a b ≡ Equal = other_way b a Equal (e b) in (
      ap (λ o. if is_eq o then 0 else suc (label_position letters a)) f,
      ap (λ o. with_label_by o a b letters (with_label letters a)) f,
    )
here (b ∷ letters) a h (suc i) lt e =
    let less : label_cmp b a ≡ Less = subst (λ x. label_cmp b x ≡ Less) (equal_same (get_or letters i b) a (e b))
    (before_all b letters h i b (omega arith)) in
    let past = past_lesser a b letters less in
    let next = here letters a (rising_tail label_cmp b letters h) i (omega arith) e in
    (past.0 ∙ ap suc next.0, past.1 ∙ ap (λ ls. b ∷ ls) next.1)

nowhere : (letters : List Label) (a : Label) (i : ℕ) → i ≤ length letters →
    ((k : ℕ) (d : Label) → 0 ≤ k → k < i → label_cmp (get_or letters k d) a ≡ Less) →
    ((k : ℕ) (d : Label) → i ≤ k → k < length letters → label_cmp (get_or letters k d) a ≡ Greater) →
    (label_position letters a ≡ length letters) × (with_label letters a ≡ take i letters ++ a ∷ drop i letters)
nowhere [] a zero le low high = (refl, refl)
nowhere [] a (suc i) le low high = absurd (omega arith)
nowhere (b ∷ letters) a zero le low high =
    let f : label_cmp a b ≡ Less = other_way b a Greater (high 0 b (omega arith) (omega arith)) in
    let next = nowhere letters a 0 (omega arith) (λ k d ge lt. absurd (omega arith))
    (λ k d ge lt. high (suc k) d (omega arith) (omega arith)) in (
      ap (λ o. if is_eq o then 0 else suc (label_position letters a)) f ∙ ap suc next.0,
      ap (λ o. with_label_by o a b letters (with_label letters a)) f,
    )
nowhere (b ∷ letters) a (suc i) le low high =
    let past = past_lesser a b letters (low 0 b (omega arith) (omega arith)) in
    let next = nowhere letters a i (omega arith) (λ k d ge lt. low (suc k) d (omega arith) (omega arith))
    (λ k d ge lt. high (suc k) d (omega arith) (omega arith)) in
    (past.0 ∙ ap suc next.0, past.1 ∙ ap (λ ls. b ∷ ls) next.1)

-- what a binary search finds
pub searched : (letters : List Label) (a : Label) (found : Result ℕ ℕ) → IsRising label_cmp letters →
    IsSearchInRange found (length letters) → IsBinarySearchResult (λ y. label_cmp y a) letters found → IsPlaceFor letters a found
searched letters a (Ok i) h bound is = let at = here letters a h i bound is in
    record { within = bound; position = at.0; kept = at.1 }
searched letters a (Err i) h bound is =
    let point = is (rises letters a h) in
    let at = nowhere letters a i bound point.0 point.1 in
    record { within = bound; position = at.0; more = at.1 }

less_first : (a b : Label) (letters : List Label) → label_cmp a b ≡ Less → IsRising label_cmp (b ∷ letters) →
    IsRising label_cmp (a ∷ letters)
less_first a b [] h k = tt
less_first a b (c ∷ letters) h k = (label_cmp_total.trans a b c h k.0, k.1)

names_behind : (a : Label) (letters : List Label) → IsRising label_cmp (a ∷ letters) → IsRising label_cmp (a ∷ names letters)
names_behind a [] h = tt
names_behind a (b ∷ letters) h = pick (names_behind b letters h.1) (names_behind a letters (less_first a b letters h.0 h.1))
    (is_name b)
  where
    pick : IsRising label_cmp (b ∷ names letters) → IsRising label_cmp (a ∷ names letters) →
        (c : Bool) → IsRising label_cmp (a ∷ (if c then b ∷ names letters else names letters))
    pick k m true = (h.0, k)
    pick k m false = m

-- names among rising letters rise
pub names_rise : (letters : List Label) → IsRising label_cmp letters → IsRising label_cmp (names letters)
names_rise [] h = tt
names_rise (a ∷ letters) h = pick (names_behind a letters h) (names_rise letters (rising_tail label_cmp a letters h)) (is_name a)
  where
    pick : IsRising label_cmp (a ∷ names letters) → IsRising label_cmp (names letters) →
        (c : Bool) → IsRising label_cmp (if c then a ∷ names letters else names letters)
    pick k m true = k
    pick k m false = m
