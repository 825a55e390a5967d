-- Tables of the places of arms.
use Rattle.std.proofs.Common.{◌≡◌, ◌∙◌, ◌<◌, ◌≤◌, ◌+◌, ◌++◌, ℕ, suc, zero, Bool, true, false, List, [], ◌∷◌, length, map, get_or, set, drop, append_assoc, Option, Some, None, inl, inr, refl, sym, ap, subst, arith}
use Rattle.std.specs.Prelude.{if◌then◌else◌, slice_get}
use Rattle.std.specs.Str.{bytes_eq}
use Rattle.std.proofs.lemmas.Bool.{cases_eq, false≢true}
use Rattle.std.proofs.lemmas.List.{drop_more, length-set}
use Rattle.std.proofs.lemmas.Map.Keys.{apart_from_distinct}
use Rattle.std.proofs.lemmas.Option.{same_Some, slice_get_within}
use Rattle.std.proofs.lemmas.Slice.Eq.{bytes_eq-Decides}
use Rattle.fst_types.specs.declared.family.Family.{Family}
use Rattle.fst_types.specs.declared.family.Maker.{Maker}
use Rattle.fst_terms.specs.ModelCoreView.{core_arms_of}
use Rattle.fst_terms.specs.declared.core_term.Arm.{Arm}
use Rattle.fst_arms.specs.Arms.{AreEachOnce, arm_labels}
use Rattle.fst_machine.specs.Code.{place_of}
use Rattle.fst_code.specs.declared.makers.MakerPlace.{MakerPlace}
use Rattle.fst_code.specs.Arms.{AreAtMost, ArePlacesOf, HasPlace, put_at, table_of}
use Rattle.fst_code.specs.Makers.{ArePlaced, Entries, found, place_in}

-- ---- labels with places

-- one more is put in the table, of those that are to come
pub table_more : (ps : List (List ℕ × ℕ)) (bs : List Arm) (is : List ℕ) (k : ℕ) (b : Arm) (i : ℕ) (all : List (List ℕ × ℕ)) →
    k < length bs → k < length is → b ≡ get_or bs k b → i ≡ get_or is k i →
    ps ++ table_of (drop k bs) (drop k is) ≡ all → (ps ++ (b.label, i) ∷ []) ++ table_of (drop (k + 1) bs) (drop (k + 1) is) ≡ all
table_more ps bs is k b i all lb li eb ei h = append_assoc ps ((b.label, i) ∷ []) (table_of (drop (k + 1) bs) (drop (k + 1) is))
    ∙ ap (λ z. ps ++ z) (sym next) ∙ h
  where
    next : table_of (drop k bs) (drop k is) ≡ (b.label, i) ∷ table_of (drop (k + 1) bs) (drop (k + 1) is)
    next = (λ j. table_of ((drop_more bs k b lb ∙ ap (λ z. z ∷ drop (k + 1) bs) (sym eb)) j)
        ((drop_more is k i li ∙ ap (λ z. z ∷ drop (k + 1) is) (sym ei)) j))

-- the place of a label is one of the places
pub table_at_most : (n : ℕ) (bs : List Arm) (is : List ℕ) → AreAtMost n is →
    (l : List ℕ) (j : ℕ) → place_of (table_of bs is) l ≡ Some j → j ≤ n
table_at_most n [] is h l j at = absurd (cc at)
table_at_most n (b ∷ bs) [] h l j at = absurd (cc at)
table_at_most n (b ∷ bs) (i ∷ is) h l j at = go (bytes_eq b.label l) at (table_at_most n bs is (λ k. h (suc k)) l j)
  where
    go : (z : Bool) → (if z then Some i else place_of (table_of bs is) l) ≡ Some j →
        (place_of (table_of bs is) l ≡ Some j → j ≤ n) → j ≤ n
    go true e rest = let same : i ≡ j = same_Some i j e in let low = h zero i refl in omega (arith, same, low)
    go false e rest = rest e

-- ---- one place put

get_set_same : (xs : List ℕ) (k v : ℕ) → k < length xs → slice_get (set xs k v) k ≡ Some v
get_set_same [] k v h = absurd (omega (arith, h))
get_set_same (x ∷ xs) zero v h = refl
get_set_same (x ∷ xs) (suc k) v h = get_set_same xs k v (omega (arith, h))

get_set_other : (xs : List ℕ) (k j v : ℕ) → (k ≡ j → ⊥) → slice_get (set xs k v) j ≡ slice_get xs j
get_set_other [] k j v h = refl
get_set_other (x ∷ xs) zero zero v h = absurd (h refl)
get_set_other (x ∷ xs) zero (suc j) v h = refl
get_set_other (x ∷ xs) (suc k) zero v h = refl
get_set_other (x ∷ xs) (suc k) (suc j) v h = get_set_other xs k j v (λ e. h (ap suc e))

pub put_at_most : (o : Option MakerPlace) (n i : ℕ) (ps : List ℕ) → AreAtMost n ps → i ≤ n → AreAtMost n (put_at o i ps)
put_at_most None n i ps h low k j at = h k j at
put_at_most (Some p) n i ps h low k j at = elim (cases_eq p.maker k) [
  | inl same ↦ go (slice_get_within (set ps p.maker i) k j at)
  | inr other ↦ h k j (sym (get_set_other ps p.maker k i other) ∙ at)
]
  where
    go : k < length (set ps p.maker i) → j ≤ n
    go lt = elim (cases_eq p.maker k) [
      | inl same ↦
          let inside : p.maker < length ps = omega (arith, lt, length-set ps p.maker i, same) in
          let is : i ≡ j = same_Some i j (sym (get_set_same ps p.maker i inside) ∙ ap (slice_get (set ps p.maker i)) same ∙ at) in
          omega (arith, is, low)
      | inr other ↦ h k j (sym (get_set_other ps p.maker k i other) ∙ at)
    ]

pub put_length : (o : Option MakerPlace) (i : ℕ) (ps : List ℕ) → length (put_at o i ps) ≡ length ps
put_length None i ps = refl
put_length (Some p) i ps = length-set ps p.maker i

-- ---- constructors and arms

-- a name among those of constructors is that of one
maker_at : (ms : List Maker) (x : List ℕ) (o : ℕ) → o < length (map (λ (m : Maker). m.name) ms) →
    get_or (map (λ (m : Maker). m.name) ms) o x ≡ x →
    (m : Maker) × (slice_get ms o ≡ Some m) × (m.name ≡ x)
maker_at [] x o h e = absurd (omega (arith, h))
maker_at (m ∷ ms) x zero h e = (m, refl, e)
maker_at (m ∷ ms) x (suc o) h e = maker_at ms x o (omega (arith, h)) e

-- the label of an arm is among the labels, at the arm's place
label_at : (bs : List Arm) (k : ℕ) (b : Arm) → slice_get bs k ≡ Some b → (k < length (arm_labels (core_arms_of bs))) ×
    (get_or (arm_labels (core_arms_of bs)) k b.label ≡ b.label)
label_at [] k b h = absurd (cc h)
label_at (a ∷ bs) zero b h = let same : a ≡ b = same_Some a b h in (omega arith, ap (λ (z : Arm). z.label) same)
label_at (a ∷ bs) (suc k) b h = let rest = label_at bs k b h in (omega (arith, rest.0), rest.1)

abbrev pub names : List Maker → List (List ℕ)
names ms = map (λ (m : Maker). m.name) ms

-- the constructor that an arm stands for
pub record Stands (f : Family) (entries : Entries) (b : Arm) : Type 0 where
  pub number : ℕ
  pub maker : Maker
  pub there : slice_get f.makers.items number ≡ Some maker
  pub named : maker.name ≡ b.label
  pub found_at : found entries b.label ≡ Some (place_in f.makers.items number)

pub stands : (fs : List Family) (entries : Entries) (n : ℕ) (f : Family) (bs : List Arm) (k : ℕ) (b : Arm) →
    ArePlaced fs entries → slice_get fs n ≡ Some f →
    AreEachOnce (names f.makers.items) (arm_labels (core_arms_of bs)) → slice_get bs k ≡ Some b → Stands f entries b
stands fs entries n f bs k b placed here each at =
    let label = label_at bs k b at in
    let named = (each.same b.label).1 (k, label.0, label.1) in
    let m = maker_at f.makers.items b.label named.0 named.1 named.2 in
    record {
      number = named.0;
      maker = m.0;
      there = m.1;
      named = m.2;
      found_at = ap (found entries) (sym m.2)
          ∙ placed.placed n named.0 f m.0 here m.1;
    }

-- no arms stand for no constructors
pub no_makers : (ms : List Maker) → AreEachOnce (names ms) [] → 0 ≡ length ms
no_makers [] each = refl
no_makers (m ∷ ms) each =
    let low : 0 < length (names (m ∷ ms)) = omega arith in
    let one = (each.same m.name).0 (0, low, refl) in absurd (omega (arith, one.1))

-- ---- the places of arms by their constructors

-- the first i arms have their places
abbrev pub PlacedSoFar : Family → List Arm → List ℕ → List ℕ → ℕ → Type 0
PlacedSoFar f bs is ps i = (k j : ℕ) (b : Arm) → k < i → slice_get bs k ≡ Some b → slice_get is k ≡ Some j → HasPlace f ps b j

pub placed_more : (fs : List Family) (entries : Entries) (n : ℕ) (f : Family) (bs : List Arm) (is ps : List ℕ) (i : ℕ) (b : Arm)
    (start : ℕ) → ArePlaced fs entries → slice_get fs n ≡ Some f →
    AreEachOnce (names f.makers.items) (arm_labels (core_arms_of bs)) → slice_get bs i ≡ Some b → slice_get is i ≡ Some start →
    length ps ≡ length f.makers.items →
    PlacedSoFar f bs is ps i → PlacedSoFar f bs is (put_at (found entries b.label) start ps) (i + 1)
placed_more fs entries n f bs is ps i b start placed here each at to long before k j a lt at_a to_j = subst
    (λ z. HasPlace f z a j) (sym put) (elim (cases_eq k i) [
      | inl same ↦
          let one : a ≡ b = same_Some a b (sym at_a ∙ ap (slice_get bs) same ∙ at) in
          let its : j ≡ start = same_Some j start (sym to_j ∙ ap (slice_get is) same ∙ to) in
          let inside : s.number < length ps = omega (arith, slice_get_within f.makers.items s.number s.maker s.there, long) in
          record {
            number = s.number;
            maker = s.maker;
            there = s.there;
            named = s.named ∙ ap (λ (z : Arm). z.label) (sym one);
            placed = get_set_same ps s.number start inside ∙ ap Some (sym its);
          }
      | inr other ↦
          let low : k < i = omega arith in
          let h = before k j a low at_a to_j in
          let differ : s.number ≡ h.number → ⊥ = λ e.
          let one : s.maker ≡ h.maker = same_Some s.maker h.maker (sym s.there ∙ ap (slice_get f.makers.items) e ∙ h.there) in
          let labels : b.label ≡ a.label = sym s.named ∙ ap (λ (z : Maker). z.name) one ∙ h.named in
          apart_labels low labels in
          record {
            number = h.number;
            maker = h.maker;
            there = h.there;
            named = h.named;
            placed =
                get_set_other ps s.number h.number start differ ∙ h.placed;
          }
    ])
  where
    s : Stands f entries b
    s = stands fs entries n f bs i b placed here each at

    put : put_at (found entries b.label) start ps ≡ set ps s.number start
    put = ap (λ z. put_at z start ps) s.found_at

    apart_labels : k < i → b.label ≡ a.label → ⊥
    apart_labels low e =
        let labels = arm_labels (core_arms_of bs) in
        let mine = label_at bs i b at in
        let its = label_at bs k a at_a in
        let first : get_or labels k b.label ≡ b.label = ap (get_or labels k) e ∙ its.1 ∙ sym e in
        let apart = apart_from_distinct bytes_eq labels k i b.label each.distinct low mine.0 in
        let itself = (bytes_eq-Decides b.label b.label).1 refl in
        absurd (false≢true (sym apart ∙ (λ z. bytes_eq (first z) (mine.1 z)) ∙ itself))

pub placed_all : (f : Family) (bs : List Arm) (is ps : List ℕ) (i : ℕ) → PlacedSoFar f bs is ps i → length bs ≤ i →
    ArePlacesOf f bs is ps
placed_all f bs is ps i s past k j b at to = let low : k < i = omega (arith, slice_get_within bs k b at, past) in
    s k j b low at to
