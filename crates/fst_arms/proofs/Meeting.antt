-- Names that are met one after the other, and whether they are the wanted ones, each once.
use Rattle.std.proofs.Common.{◌≡◌, ◌∙◌, ◌+◌, ◌<◌, ◌≤◌, ◌↔◌, refl, sym, ap, subst, arith, ℕ, List, [], ◌∷◌, ◌++◌, length, map, take, get_or, Bool, true, false, cond, not, ◌&&◌, ◌||◌, Option, Some, None, is_some}
use Rattle.std.specs.Prelude.{if◌then◌else◌, Contains}
use Rattle.std.specs.List.{IsDistinct}
use Rattle.std.specs.Str.{bytes_eq}
use Rattle.std.proofs.lemmas.Cmp.{nat_list_eq_equiv}
use Rattle.std.proofs.lemmas.List.{get_or-map, get_or-take, length-map, length-take, take_all, take_more}
use Rattle.std.proofs.lemmas.List.Folds.{list_any-append}
use Rattle.std.proofs.lemmas.Map.Keys.{IsDistinct-push, IsDistinct-from_apart, apart_from_distinct}
use Rattle.std.proofs.lemmas.Map.Views.{Contains-from_any, list_any-from_Contains}
use Rattle.std.proofs.lemmas.Slice.Eq.{bytes_eq-Decides}
use Rattle.fst_base.proofs.Bools.{same_text}
use Rattle.fst_terms.specs.ModelCoreView.{core_arms_of}
use Rattle.fst_terms.specs.declared.core_term.Arm.{Arm}
use Rattle.fst_arms.specs.Arms.{arm_labels, AreEachOnce}
use Rattle.fst_arms.specs.Places.{Entries, found, ArePlaces}
use Rattle.fst_arms.proofs.PlaceLaws.{has, is_placed}

-- a name that is found is among the others, and the other way round
contains : (xs : List (List ℕ)) (x : List ℕ) → has xs x ≡ true → Contains xs x
contains xs x h = Contains-from_any {eq = bytes_eq} same_text x xs h

contained : (xs : List (List ℕ)) (x : List ℕ) → Contains xs x → has xs x ≡ true
contained xs x h = list_any-from_Contains nat_list_eq_equiv x xs h

-- the labels of arms are those of their trees
labels_are : (bs : List Arm) → arm_labels (core_arms_of bs) ≡ map (λ b. b.label) bs
labels_are [] = refl
labels_are (b ∷ bs) = ap (λ ls. b.label ∷ ls) (labels_are bs)

-- of the wanted names the met ones were met once, and the others are left
pub record IsLeft (wanted met : List (List ℕ)) (left : List ℕ → Bool) : Type 0 where
  pub distinct : IsDistinct bytes_eq met
  pub among : (x : List ℕ) → has met x ≡ true → has wanted x ≡ true
  pub unmet : (x : List ℕ) → left x ≡ (has wanted x && not (has met x))

-- ---- truth values

none_apart : (a : Bool) → a ≡ (a && not false)
none_apart true = refl
none_apart false = refl

both : (a b : Bool) → (a && not b) ≡ true → (a ≡ true) × (b ≡ false)
both true true e = absurd (cc e)
both true false e = (refl, refl)
both false b e = absurd (cc e)

already : (a b : Bool) → a ≡ true → (a && not b) ≡ false → b ≡ true
already true true e f = refl
already true false e f = absurd (cc f)
already false b e f = absurd (cc e)

one_of : (a b c : Bool) → (a || (b || false)) ≡ true → (a ≡ true → c ≡ true) → (b ≡ true → c ≡ true) → c ≡ true
one_of true b c e f g = f refl
one_of false true c e f g = g refl
one_of false false c e f g = absurd (cc e)

taken : (a b c : Bool) (o : Bool) → o ≡ (a && not b) → (if c then false else o) ≡ (a && not (b || (c || false)))
taken true true true o e = refl
taken true true false o e = e
taken true false true o e = refl
taken true false false o e = e
taken false b true o e = refl
taken false b false o e = e

-- ---- one name after the other

-- before the first
pub none_met : (wanted : List (List ℕ)) (entries : Entries) → ArePlaces wanted entries → IsLeft wanted []
    (λ x. is_some (found entries x))
none_met wanted entries places = record {
  distinct = IsDistinct-from_apart bytes_eq [] (λ i j d lt at. absurd (omega (arith, at)));
  among = λ x h. absurd (cc h);
  unmet = λ x. ap is_some (places x) ∙ is_placed wanted x ∙ none_apart (has wanted x);
}

-- one more, which was left
one_met : (wanted met : List (List ℕ)) (l : List ℕ) (left next : List ℕ → Bool) → IsLeft wanted met left → left l ≡ true →
    ((x : List ℕ) → next x ≡ (if bytes_eq x l then false else left x)) → IsLeft wanted (met ++ l ∷ []) next
one_met wanted met l left next t at after =
    let here = both (has wanted l) (has met l) (sym (t.unmet l) ∙ at) in
    record {
      distinct = IsDistinct-push nat_list_eq_equiv met l t.distinct here.1;
      among = λ x h. one_of (has met x) (bytes_eq x l) (has wanted x) (sym (list_any-append (bytes_eq x) met (l ∷ [])) ∙ h)
          (t.among x)
          (λ e. ap (has wanted) (same_text x l e) ∙ here.0);
      unmet = λ x. after x ∙ taken (has wanted x) (has met x) (bytes_eq x l) (left x) (t.unmet x)
          ∙ ap (λ b. has wanted x && not b) (sym (list_any-append (bytes_eq x) met (l ∷ [])));
    }

-- one that isn't left
not_left : (wanted labels : List (List ℕ)) (i : ℕ) (l : List ℕ) (left : List ℕ → Bool) → IsLeft wanted (take i labels) left →
    i < length labels → get_or labels i l ≡ l →
    left l ≡ false → AreEachOnce wanted labels → ⊥
not_left wanted labels i l left t lt at none each =
    let met : List (List ℕ) = take i labels in
    let one = contained wanted l ((each.same l).1 (i, lt, at)) in
    let before = contains met l (already (has wanted l) (has met l) one (sym (t.unmet l) ∙ none)) in
    let k = before.0 in
    let within = before.1 in
    let less : k < i = omega (arith, length-take i labels, within) in
    let first : get_or labels k l ≡ l = sym (get_or-take i labels k l less) ∙ before.2 in
    let apart = apart_from_distinct bytes_eq labels k i l each.distinct less lt in
    let itself = (bytes_eq-Decides l l).1 refl in
    absurd (cc (sym itself ∙ (λ j. bytes_eq (sym first j) (sym at j)) ∙ apart))

-- the label of an arm is among the labels, at the arm's place
label_at : (bs : List Arm) (i : ℕ) (b : Arm) → i < length bs → b ≡ get_or bs i b →
    (i < length (map (λ a. a.label) bs)) × (get_or (map (λ a. a.label) bs) i b.label ≡ b.label)
label_at bs i b lt at = (
  omega (arith, length-map bs (λ (a : Arm). a.label), lt),
  get_or-map (λ (a : Arm). a.label) bs i b b.label lt ∙ ap (λ (a : Arm). a.label) (sym at),
)

taken_out : (c : Bool) (o : Option ℕ) → is_some (if c then None else o) ≡ (if c then false else is_some o)
taken_out true o = refl
taken_out false o = refl

-- an arm more, whose label is taken out of the table
pub arm_met : (wanted : List (List ℕ)) (bs : List Arm) (i : ℕ) (b : Arm) (old new : Entries) →
    IsLeft wanted (take i (map (λ a. a.label) bs)) (λ x. is_some (found old x)) →
    i < length bs → b ≡ get_or bs i b → is_some (found old b.label) ≡ true →
    ((x : List ℕ) → found new x ≡ (if bytes_eq x b.label then None else found old x)) →
    IsLeft wanted (take (i + 1) (map (λ a. a.label) bs)) (λ x. is_some (found new x))
arm_met wanted bs i b old new t lt at there after =
    let labels : List (List ℕ) = map (λ a. a.label) bs in
    let place = label_at bs i b lt at in
    let whole : take (i + 1) labels ≡ take i labels ++ b.label ∷ [] = take_more labels i b.label place.0 ∙ ap
    (λ y. take i labels ++ y ∷ []) place.1 in
    subst (λ met. IsLeft wanted met (λ x. is_some (found new x))) (sym whole)
    (one_met wanted (take i labels) b.label (λ x. is_some (found old x)) (λ x. is_some (found new x)) t there
    (λ x. ap is_some (after x) ∙ taken_out (bytes_eq x b.label) (found old x)))

-- an arm whose label isn't in the table
pub arm_refused : (wanted : List (List ℕ)) (bs : List Arm) (i : ℕ) (b : Arm) (old : Entries) →
    IsLeft wanted (take i (map (λ a. a.label) bs)) (λ x. is_some (found old x)) →
    i < length bs → b ≡ get_or bs i b → is_some (found old b.label) ≡ false → AreEachOnce wanted (arm_labels (core_arms_of bs)) →
    ⊥
arm_refused wanted bs i b old t lt at none each =
    let place = label_at bs i b lt at in
    not_left wanted (map (λ a. a.label) bs) i b.label
    (λ x. is_some (found old x)) t place.0 place.1 none (subst (AreEachOnce wanted) (labels_are bs) each)

-- ---- after the last

-- none is left
all_met : (wanted labels : List (List ℕ)) (entries : Entries) → IsLeft wanted labels (λ x. is_some (found entries x)) →
    length entries ≡ 0 → AreEachOnce wanted labels
all_met wanted labels [] t e = record {
  distinct = t.distinct;
  same = λ x. (
    λ h. contains labels x (already (has wanted x) (has labels x) (contained wanted x h) (sym (t.unmet x))),
    λ h. contains wanted x (t.among x (contained labels x h)),
  );
}
all_met wanted labels (e ∷ entries) t none = absurd (omega (arith, none))

-- one is left
some_left : (wanted labels : List (List ℕ)) (entries : Entries) → IsLeft wanted labels (λ x. is_some (found entries x)) →
    AreEachOnce wanted labels → length entries ≡ 0
some_left wanted labels [] t each = refl
some_left wanted labels (e ∷ entries) t each =
    let x : List ℕ = e.0.items in
    let there : is_some (found (e ∷ entries) x) ≡ true = ap
    (λ c. is_some (cond c (Some e.1) (found entries x))) ((bytes_eq-Decides x x).1 refl) in
    let here = both (has wanted x) (has labels x) (sym (t.unmet x) ∙ there) in
    let met = contained labels x ((each.same x).0 (contains wanted x here.0)) in
    absurd (cc (sym met ∙ here.1))

-- the arms are each met once exactly where none is left
pub arms_met : (wanted : List (List ℕ)) (bs : List Arm) (i : ℕ) (entries : Entries) →
    IsLeft wanted (take i (map (λ a. a.label) bs)) (λ x. is_some (found entries x)) →
    length bs ≤ i → (length entries ≡ 0) ↔ AreEachOnce wanted (arm_labels (core_arms_of bs))
arms_met wanted bs i entries t past =
    let labels : List (List ℕ) = map (λ a. a.label) bs in
    let all : take i labels ≡ labels = take_all i labels (omega (arith, length-map bs (λ (a : Arm). a.label), past)) in
    let whole = subst (λ met. IsLeft wanted met (λ x. is_some (found entries x))) all t in (
      λ none. subst (AreEachOnce wanted) (sym (labels_are bs)) (all_met wanted labels entries whole none),
      λ each. some_left wanted labels entries whole (subst (AreEachOnce wanted) (labels_are bs) each),
    )

-- ---- numbers

-- a label that isn't in the table of the wanted names
pub arm_unknown : (wanted : List (List ℕ)) (bs : List Arm) (i : ℕ) (b : Arm) (entries : Entries) → ArePlaces wanted entries →
    i < length bs → b ≡ get_or bs i b →
    found entries b.label ≡ None → AreEachOnce wanted (arm_labels (core_arms_of bs)) → ⊥
arm_unknown wanted bs i b entries places lt at none each =
    let place = label_at bs i b lt at in
    let among = contained wanted b.label (((subst (AreEachOnce wanted) (labels_are bs) each).same b.label).1
    (i, place.0, place.1)) in
    absurd (cc (sym among ∙ sym (is_placed wanted b.label) ∙ ap is_some (sym (places b.label) ∙ none)))
