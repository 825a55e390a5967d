-- How many labels and parts types have, how far on they stand, and how many letters rules have.
use Rattle.std.proofs.Common.{◌≡◌, ◌∙◌, ◌+◌, ◌<◌, ◌≤◌, ◌^◌, refl, sym, ap, subst, arith, ℕ, suc, List, [], ◌∷◌, ◌++◌, length, Bool, true, false, map}
use Rattle.std.specs.Prelude.{All, nat_lt, if◌then◌else◌}
use Rattle.std.specs.declared.cmp.Ordering.{Ordering}
use Rattle.std.specs.declared.cmp.Ordering.TheVariants.{Less, Equal, Greater}
use Rattle.std.proofs.lemmas.List.{length-append, length-map}
use Rattle.std.proofs.lemmas.List.Elements.{All-cons}
use Rattle.fst_types.specs.Tree.{Tree, skip, send, receive, close, wait, select, offer, seq, rec, back, var, plain, arrow, pair, named, Branches, none, branch}
use Rattle.fst_types.specs.Size.{nodes, nodes_all}
use Rattle.fst_types.specs.Order.{label_cmp}
use Rattle.fst_types.specs.declared.label.Label.{Label}
use Rattle.fst_types.specs.declared.label.Label.TheVariants.{Select, Offer}
use Rattle.fst_lts.specs.Step.{terminated}
use Rattle.fst_parts.specs.Place.{Place, is_closed, top_of, place_past, own_place, own_place_if, body_place}
use Rattle.fst_parts.specs.Labels.{labels_in, branch_labels, is_name, names}
use Rattle.fst_parts.specs.Letters.{with_label, with_label_by, with_labels}
use Rattle.fst_parts.specs.Once.{Part, position, with_part, with_parts}
use Rattle.fst_grammar.specs.Parts.{parts, parts_all, parts_of, numbers_by, has_end, dead_count}
use Rattle.fst_grammar.specs.Rules.{name_rules}
use Rattle.fst_grammar.specs.Word.{Numbers}
use Rattle.fst_grammar.specs.Equations.{Equation, own, part_equation, live_equations, dead_equations, equations_by}
use Rattle.fst_parts.specs.Views.{part_of}
use Rattle.fst_grammar.specs.Views.{equation_of}
use Rattle.fst_grammar.specs.declared.equations.Equation.{Equation as Kept}
use Rattle.fst_parts.specs.declared.found.Found.{Found}
use Rattle.fst_grammar.proofs.SeekLaws.{Every, every_both}
use Rattle.fst_grammar.proofs.TableLaws.{every_with}

mutual
  labels_few : (t : Tree) → length (labels_in t) ≤ nodes t
  labels_few skip = omega arith
  labels_few (send b) = omega arith
  labels_few (receive b) = omega arith
  labels_few close = omega arith
  labels_few wait = omega arith
  labels_few (select cs) = omega (arith, branches_few Select cs)
  labels_few (offer cs) = omega (arith, branches_few Offer cs)
  labels_few (seq s r) = omega (arith, length-append (labels_in s) (labels_in r), labels_few s, labels_few r)
  labels_few (rec s) = omega (arith, labels_few s)
  labels_few (back k) = omega arith
  labels_few (var k) = omega arith
  labels_few (plain b) = omega arith
  labels_few (arrow u s r) = omega arith
  labels_few (pair s r) = omega arith
  labels_few (named k) = omega arith

  branches_few : (make : List ℕ → Label) (cs : Branches) → length (branch_labels make cs) ≤ nodes_all cs
  branches_few make none = omega arith
  branches_few make (branch l s cs) = omega (
    arith,
    length-append (labels_in s) (branch_labels make cs),
    labels_few s,
    branches_few make cs,
  )

inserted_few : (letters : List Label) (a : Label) → length (with_label letters a) ≤ suc (length letters)
inserted_few [] a = omega arith
inserted_few (b ∷ letters) a = pick (inserted_few letters a) (label_cmp a b)
  where
    pick : length (with_label letters a) ≤ suc (length letters) →
        (o : Ordering) → length (with_label_by o a b letters (with_label letters a)) ≤ suc (suc (length letters))
    pick h Less = omega arith
    pick h Equal = omega arith
    pick h Greater = omega arith

inserted_all_few : (labels letters : List Label) → length (with_labels letters labels) ≤ length labels + length letters
inserted_all_few [] letters = omega arith
inserted_all_few (a ∷ labels) letters = omega (arith, inserted_all_few labels (with_label letters a), inserted_few letters a)

-- there are no more names than letters
pub names_few : (letters : List Label) → length (names letters) ≤ length letters
names_few [] = omega arith
names_few (l ∷ letters) = pick (names_few letters) (is_name l)
  where
    pick : length (names letters) ≤ length letters →
        (c : Bool) → length (if c then l ∷ names letters else names letters) ≤ suc (length letters)
    pick h true = omega arith
    pick h false = omega arith

mutual
  parts_few : (p : Place) (t : Tree) → length (parts p t) ≤ nodes t
  parts_few p skip = omega arith
  parts_few p (send b) = omega arith
  parts_few p (receive b) = omega arith
  parts_few p close = omega arith
  parts_few p wait = omega arith
  parts_few p (select cs) = omega (arith, parts_all_few (place_past (own_place p (select cs)) 1) cs)
  parts_few p (offer cs) = omega (arith, parts_all_few (place_past (own_place p (offer cs)) 1) cs)
  parts_few p (seq s r) = omega (
    arith,
    length-append (parts (place_past p 1) s) (parts (place_past p (1 + nodes s)) r),
    parts_few (place_past p 1) s,
    parts_few (place_past p (1 + nodes s)) r,
  )
  parts_few p (rec s) = pick (parts_few (body_place (own_place p (rec s))) s) (terminated s)
    where
      pick : length (parts (body_place (own_place p (rec s))) s) ≤ nodes s →
          (c : Bool) → length (if c then [] else record { place = own_place p (rec s); type = rec s } ∷ parts
          (body_place (own_place p (rec s))) s) ≤ nodes s + 1
      pick h true = omega arith
      pick h false = omega arith
  parts_few p (back k) = omega arith
  parts_few p (var k) = omega arith
  parts_few p (plain b) = omega arith
  parts_few p (arrow u s r) = omega arith
  parts_few p (pair s r) = omega arith
  parts_few p (named k) = omega arith

  parts_all_few : (p : Place) (cs : Branches) → length (parts_all p cs) ≤ nodes_all cs
  parts_all_few p none = omega arith
  parts_all_few p (branch l s cs) = omega (
    arith,
    length-append (parts (place_past p 1) s) (parts_all (place_past p (1 + nodes s)) cs),
    parts_few (place_past p 1) s,
    parts_all_few (place_past p (1 + nodes s)) cs,
  )

with_part_few : (found : List Part) (e : Part) → length (with_part found e) ≤ suc (length found)
with_part_few found e = pick (nat_lt (position found e.place.whole e.place.at) (length found))
  where
    pick : (c : Bool) → length (if c then found else found ++ e ∷ []) ≤ suc (length found)
    pick true = omega arith
    pick false = omega (arith, length-append found (e ∷ []))

with_parts_few : (found es : List Part) → length (with_parts found es) ≤ length found + length es
with_parts_few found [] = omega arith
with_parts_few found (e ∷ es) = omega (arith, with_parts_few (with_part found e) es, with_part_few found e)

-- no part ends behind its whole

entered_within : (c : Bool) (p : Place) (t : Tree) (b : ℕ) → p.at + nodes t ≤ b → (own_place_if c p t).at + nodes t ≤ b
entered_within true p t b h = omega arith
entered_within false p t b h = h

abbrev pub EndsWithin : ℕ → Part → Type 0
EndsWithin b e = e.place.at + nodes e.type ≤ b

mutual
  pub parts_within : (p : Place) (t : Tree) (b : ℕ) → p.at + nodes t ≤ b → Every (EndsWithin b) (parts p t)
  parts_within p skip b h = tt
  parts_within p (send x) b h = tt
  parts_within p (receive x) b h = tt
  parts_within p close b h = tt
  parts_within p wait b h = tt
  parts_within p (select cs) b h = let le = entered_within (is_closed (select cs)) p (select cs) b h in
      (le, parts_all_within (place_past (own_place p (select cs)) 1) cs b (omega arith))
  parts_within p (offer cs) b h = let le = entered_within (is_closed (offer cs)) p (offer cs) b h in
      (le, parts_all_within (place_past (own_place p (offer cs)) 1) cs b (omega arith))
  parts_within p (seq s r) b h =
      every_both (EndsWithin b) (parts (place_past p 1) s) (parts (place_past p (1 + nodes s)) r)
      (parts_within (place_past p 1) s b (omega arith)) (parts_within (place_past p (1 + nodes s)) r b (omega arith))
  parts_within p (rec s) b h =
      let le = entered_within (is_closed (rec s)) p (rec s) b h in
      pick le (parts_within (body_place (own_place p (rec s))) s b (omega arith)) (terminated s)
    where
      pick : EndsWithin b (record { place = own_place p (rec s); type = rec s }) →
          Every (EndsWithin b) (parts (body_place (own_place p (rec s))) s) → (c : Bool) →
          Every (EndsWithin b) (if c then [] else record { place = own_place p (rec s); type = rec s } ∷ parts
          (body_place (own_place p (rec s))) s)
      pick here body true = tt
      pick here body false = (here, body)
  parts_within p (back k) b h = tt
  parts_within p (var k) b h = tt
  parts_within p (plain x) b h = tt
  parts_within p (arrow u s r) b h = tt
  parts_within p (pair s r) b h = tt
  parts_within p (named k) b h = tt

  parts_all_within : (p : Place) (cs : Branches) (b : ℕ) → p.at + nodes_all cs ≤ b → Every (EndsWithin b) (parts_all p cs)
  parts_all_within p none b h = tt
  parts_all_within p (branch l s cs) b h =
      every_both (EndsWithin b) (parts (place_past p 1) s) (parts_all (place_past p (1 + nodes s)) cs)
      (parts_within (place_past p 1) s b (omega arith)) (parts_all_within (place_past p (1 + nodes s)) cs b (omega arith))

pub found_within : (b : ℕ) (ps : List Found) → Every (EndsWithin b) (map part_of ps) → All
    (λ p. p.at + nodes p.part.ty.now ≤ b) ps
found_within b [] h = λ i d lt. absurd (omega arith)
found_within b (p ∷ ps) h = All-cons (λ (q : Found). q.at + nodes q.part.ty.now ≤ b) p ps h.0 (found_within b ps h.1)

-- all numbers of two types within the limit fit
pub table_small : (s r : Tree) (letters : List Label) (found : List Part) → nodes s ≤ 4096 → nodes r ≤ 4096 →
    letters ≡ with_labels [] (labels_in s ++ labels_in r) → found ≡ parts_of s r →
    (length letters < 2 ^ 31) × (length (names letters) + length found < 2 ^ 31)
table_small s r letters found few_s few_r is at =
    let labels = inserted_all_few (labels_in s ++ labels_in r) [] in
    let both = length-append (labels_in s) (labels_in r) in
    let long : length letters ≡ length (with_labels [] (labels_in s ++ labels_in r)) = ap length is in
    let parts_long : length found ≡ length (parts_of s r) = ap length at in
    let parts_both = length-append (parts (top_of s) s) (parts (top_of r) r) in (
      omega (arith, labels_few s, labels_few r),
      omega (
        arith,
        labels_few s,
        labels_few r,
        names_few letters,
        with_parts_few [] (parts (top_of s) s ++ parts (top_of r) r),
        parts_few (top_of s) s,
        parts_few (top_of r) r,
      ),
    )

-- no part of two types within the limit ends behind its whole
pub table_within : (s r : Tree) (ps : List Found) → nodes s ≤ 4096 → nodes r ≤ 4096 → map part_of ps ≡ parts_of s r → All
    (λ p. p.at + nodes p.part.ty.now < 2 ^ 31) ps
table_within s r ps few_s few_r is i d lt =
    let all = every_with (EndsWithin 4096) [] (parts (top_of s) s ++ parts (top_of r) r) tt
    (every_both (EndsWithin 4096) (parts (top_of s) s) (parts (top_of r) r) (parts_within (top_of s) s 4096 (omega arith))
    (parts_within (top_of r) r 4096 (omega arith))) in
    let h = found_within 4096 ps (subst (Every (EndsWithin 4096)) (sym is) all) i d lt in
    omega arith

-- there is an equation for each name and each part
pub live_length : (letters : List Label) (found : List Part) →
    length (live_equations letters found) ≡ length (names letters) + length found
live_length letters found =
    let n : Numbers = numbers_by letters found in
    length-append (map (λ a. own (name_rules n letters a)) (names letters)) (map (part_equation n letters) found)
    ∙ (λ i. length-map (names letters) (λ a. own (name_rules n letters a)) i + length-map found (part_equation n letters) i)

dead_length : (letters : List Label) → length (dead_equations letters) ≡ dead_count letters
dead_length letters = pick (has_end letters)
  where
    pick : (c : Bool) → length {A = Equation} (if c then own [] ∷ [] else []) ≡ (if c then 1 else 0)
    pick true = refl
    pick false = refl

-- and one for the dead non-terminal, where there is one
pub equations_length : (letters : List Label) (found : List Part) →
    length (equations_by letters found) ≡ length (names letters) + length found + dead_count letters
equations_length letters found =
    length-append (live_equations letters found) (dead_equations letters)
    ∙ (λ i. live_length letters found i + dead_length letters i)

-- so there is at most one more than names and parts
pub equations_count : (es : List Kept) (letters : List Label) (found : List Part) →
    map equation_of es ≡ equations_by letters found → length es ≤ length (names letters) + length found + 1
equations_count es letters found is =
    let count : length es ≡ length (names letters) + length found + dead_count letters = sym (length-map es equation_of)
    ∙ ap length is ∙ equations_length letters found in
    let few = dead_few (has_end letters) in
    omega arith
  where
    dead_few : (c : Bool) → (if c then 1 else 0) ≤ 1
    dead_few true = omega arith
    dead_few false = omega arith
