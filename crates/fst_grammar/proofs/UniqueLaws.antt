-- Two session types within the limit on nodes have at most one grammar.
use Rattle.std.proofs.Common.{◌≡◌, ◌∙◌, ◌+◌, ◌<◌, ◌≤◌, ◌⊎◌, inl, inr, ⊎_elim, refl, sym, ap, subst, arith, ℕ, zero, suc, List, [], ◌∷◌, ◌++◌, length, Bool, true, false, Some, ◌&&◌}
use Rattle.std.specs.Prelude.{Contains, slice_get, nat_lt, if◌then◌else◌}
use Rattle.std.specs.declared.cmp.Ordering.TheVariants.{Less}
use Rattle.std.proofs.lemmas.List.{ext_get_or}
use Rattle.std.proofs.lemmas.List.Elements.{Contains-append_cases}
use Rattle.std.proofs.lemmas.Bool.{eq-eqb, ltb-false, and_parts}
use Rattle.fst_types.specs.Tree.{Tree, skip, send, receive, close, wait, select, offer, seq, rec, back, var, plain, arrow, pair, named, Branches, none, branch}
use Rattle.fst_types.specs.Size.{nodes}
use Rattle.fst_types.specs.Order.{label_cmp, same_label}
use Rattle.fst_types.specs.declared.kind.Kind.{Kind}
use Rattle.fst_types.specs.declared.label.Label.{Label}
use Rattle.fst_types.specs.declared.label.Label.TheVariants.{Send, Receive, Select, Offer, Close, Wait, Var}
use Rattle.fst_types.proofs.Laws.{same_label-same, same_label-itself, label_cmp_total}
use Rattle.fst_kinds.specs.WellFormed.{IsSession}
use Rattle.fst_base.specs.Order.{IsRising}
use Rattle.fst_lts.specs.Step.{terminated}
use Rattle.fst_words.specs.Words.{Productions, row_of}
use Rattle.fst_parts.specs.Place.{Place, top_of, place_past, own_place, body_place}
use Rattle.fst_grammar.specs.Word.{Numbers, node_at}
use Rattle.fst_parts.specs.Labels.{labels_in, branch_labels, AreLetters, is_name, names, label_position}
use Rattle.fst_parts.specs.Once.{Part, stands_at, position, with_part, with_parts}
use Rattle.fst_grammar.specs.Parts.{parts, parts_all, parts_of, numbers_by}
use Rattle.fst_grammar.specs.Rules.{rules_before, name_rules, HasRows, HaveRows}
use Rattle.fst_grammar.specs.Equations.{Equation, own, like, rules_by, Solves, part_equation, equations_by, IsGrounded, most_rank}
use Rattle.fst_grammar.specs.Translation.{IsGrammar, OneGrammar}
use Rattle.fst_parts.proofs.Laws.{same_tree_is}
use Rattle.fst_base.proofs.Lists.{contains_head, contains_tail, from_contains, get_there}
use Rattle.fst_grammar.proofs.KnownLaws.{contains_known}
use Rattle.fst_grammar.proofs.SeekLaws.{Every, every_both}
use Rattle.fst_grammar.proofs.TableLaws.{Has, every_with, every_get}
use Rattle.fst_grammar.proofs.SoundLaws.{rising_first, not_less}
use Rattle.fst_grammar.proofs.RankLaws.{rank}
use Rattle.fst_grammar.proofs.SizeLaws.{equations_length}
use Rattle.fst_grammar.proofs.EquationLaws.{equation_cases}
use Rattle.fst_grammar.proofs.TranslationLaws.{seated, equations_grounded}
use Rattle.fst_base.proofs.Orders.{rising_tail}
use Rattle.fst_base.specs.Limits.{most_nodes}

-- one list of letters

-- the first of rising letters is less than all behind it
less_behind : (l a : Label) (letters : List Label) → IsRising label_cmp (l ∷ letters) → Contains letters a → label_cmp l a ≡ Less
less_behind l a letters h c = rising_first l a letters h (contains_known letters a c)

-- rising letters have no label twice
not_behind : (l : Label) (letters : List Label) → IsRising label_cmp (l ∷ letters) → Contains letters l → ⊥
not_behind l letters h c = not_less l (less_behind l l letters h c)

-- rising letters that have the same labels are one list
same_letters : (xs ys : List Label) → IsRising label_cmp xs → IsRising label_cmp ys →
    ((a : Label) → Contains xs a → Contains ys a) → ((a : Label) → Contains ys a → Contains xs a) → xs ≡ ys
same_letters [] [] h k f g = refl
same_letters [] (y ∷ ys) h k f g = absurd (omega (arith, (g y (contains_head ys y y refl)).1))
same_letters (x ∷ xs) [] h k f g = absurd (omega (arith, (f x (contains_head xs x x refl)).1))
same_letters (x ∷ xs) (y ∷ ys) h k f g =
    λ i. first i ∷ same_letters xs ys (rising_tail label_cmp x xs h) (rising_tail label_cmp y ys k) rest_left rest_right i
  where
    first : x ≡ y
    first =
        ⊎_elim (λ e. sym e)
        (λ behind. ⊎_elim (λ e. e)
        (λ m. absurd (not_less x (label_cmp_total.trans x y x (less_behind x y xs h m) (less_behind y x ys k behind))))
        (from_contains xs y x (g y (contains_head ys y y refl))))
        (from_contains ys x y (f x (contains_head xs x x refl)))

    rest_left : (a : Label) → Contains xs a → Contains ys a
    rest_left a m = ⊎_elim (λ e. absurd (not_behind x xs h (subst (Contains xs) (sym (first ∙ e)) m)))
        (λ n. n) (from_contains ys a y (f a (contains_tail xs a x m)))

    rest_right : (a : Label) → Contains ys a → Contains xs a
    rest_right a m = ⊎_elim (λ e. absurd (not_behind y ys k (subst (Contains ys) (sym (sym first ∙ e)) m)))
        (λ n. n) (from_contains xs a x (g a (contains_tail ys a y m)))

-- the place of each name

-- a name among letters is one of them
pub name_in : (letters : List Label) (m : ℕ) (a : Label) → slice_get (names letters) m ≡ Some a →
    (is_name a ≡ true) × Contains letters a
name_in [] m a g = absurd (cc g)
name_in (l ∷ letters) m a g = pick (λ k. name_in letters k a) (is_name l) refl m g
  where
    pick : ((k : ℕ) → slice_get (names letters) k ≡ Some a → (is_name a ≡ true) × Contains letters a) →
        (c : Bool) → is_name l ≡ c → (k : ℕ) → slice_get (if c then l ∷ names letters else names letters) k ≡ Some a →
        (is_name a ≡ true) × Contains (l ∷ letters) a
    pick next true is zero g =
        let same : l ≡ a = cc in
        (ap is_name (sym same) ∙ is, contains_head letters a l same)
    pick next true is (suc k) g = let n = next k g in (n.0, contains_tail letters a l n.1)
    pick next false is k g = let n = next k g in (n.0, contains_tail letters a l n.1)

-- the place of the m-th name is m
name_place : (letters : List Label) (m : ℕ) (a : Label) → IsRising label_cmp letters → slice_get (names letters) m ≡ Some a →
    label_position (names letters) a ≡ m
name_place [] m a h g = absurd (cc g)
name_place (l ∷ letters) m a h g = pick (λ k. name_place letters k a (rising_tail label_cmp l letters h)) (is_name l) m g
  where
    other : (k : ℕ) → slice_get (names letters) k ≡ Some a → (c : Bool) → same_label a l ≡ c → c ≡ false
    other k g true is = absurd (not_behind l letters h
        (subst (Contains letters) (same_label-same a l is) (name_in letters k a g).1))
    other k g false is = refl

    pick : ((k : ℕ) → slice_get (names letters) k ≡ Some a → label_position (names letters) a ≡ k) → (c : Bool) →
        (k : ℕ) → slice_get (if c then l ∷ names letters else names letters) k ≡ Some a →
        label_position (if c then l ∷ names letters else names letters) a ≡ k
    pick next true zero g =
        let same : l ≡ a = cc in
        ap (λ c. if c then 0 else suc (label_position (names letters) a)) (ap (same_label a) same ∙ same_label-itself a)
    pick next true (suc k) g =
        ap (λ c. if c then 0 else suc (label_position (names letters) a)) (other k g (same_label a l) refl) ∙ ap suc (next k g)
    pick next false k g = next k g

-- the place of each part

-- a part in the list keeps its position where more is put behind
place_front : (found more : List Part) (w : Tree) (a : ℕ) → Has found w a → position (found ++ more) w a ≡ position found w a
place_front [] more w a h = absurd (omega arith)
place_front (e ∷ found) more w a h = pick (place_front found more w a) (stands_at e w a) h
  where
    pick : (Has found w a → position (found ++ more) w a ≡ position found w a) → (c : Bool) →
        (if c then 0 else suc (position found w a)) < suc (length found) →
        (if c then 0 else suc (position (found ++ more) w a)) ≡ (if c then 0 else suc (position found w a))
    pick next true lt = refl
    pick next false lt = ap suc (next (omega arith))

-- a part that isn't in the list gets the last position
place_last : (found : List Part) (e : Part) → length found ≤ position found e.place.whole e.place.at →
    position (found ++ e ∷ []) e.place.whole e.place.at ≡ length found
place_last [] e h =
    let is : stands_at e e.place.whole e.place.at ≡ true =
    λ i. eq-eqb e.place.at e.place.at refl i && (same_tree_is e.place.whole e.place.whole).1 refl i in
    ap (λ c. if c then 0 else 1) is
place_last (f ∷ found) e h = pick (place_last found e) (stands_at f e.place.whole e.place.at) h
  where
    pick : (length found ≤ position found e.place.whole e.place.at →
        position (found ++ e ∷ []) e.place.whole e.place.at ≡ length found) →
        (c : Bool) → suc (length found) ≤ (if c then 0 else suc (position found e.place.whole e.place.at)) →
        (if c then 0 else suc (position (found ++ e ∷ []) e.place.whole e.place.at)) ≡ suc (length found)
    pick next true le = absurd (omega arith)
    pick next false le = ap suc (next (omega arith))

-- the list has each part once: the position of its k-th is k
abbrev AreOnce : List Part → Type 0
AreOnce found = (k : ℕ) (x : Part) → slice_get found k ≡ Some x → position found x.place.whole x.place.at ≡ k

get_pushed : (found : List Part) (e : Part) (k : ℕ) (x : Part) → slice_get (found ++ e ∷ []) k ≡ Some x →
    ((slice_get found k ≡ Some x) × (k < length found)) ⊎ ((e ≡ x) × (k ≡ length found))
get_pushed [] e zero x g = inr (cc, refl)
get_pushed [] e (suc k) x g = absurd (cc g)
get_pushed (f ∷ found) e zero x g = inl (g, omega arith)
get_pushed (f ∷ found) e (suc k) x g =
    ⊎_elim (λ h. let lt = h.1 in inl (h.0, omega arith)) (λ h. inr (h.0, ap suc h.1)) (get_pushed found e k x g)

once_with : (found : List Part) (e : Part) → AreOnce found → AreOnce (with_part found e)
once_with found e h = pick (nat_lt (position found e.place.whole e.place.at) (length found)) refl
  where
    pushed : (nat_lt (position found e.place.whole e.place.at) (length found) ≡ false) → AreOnce (found ++ e ∷ [])
    pushed is k x g = elim (get_pushed found e k x g) [
      | inl m ↦
          let at : position found x.place.whole x.place.at ≡ k = h k x m.0 in
          let lt : k < length found = m.1 in
          place_front found (e ∷ []) x.place.whole x.place.at (omega arith) ∙ at
      | inr m ↦
          let le : length found ≤ position found e.place.whole e.place.at =
          ltb-false (position found e.place.whole e.place.at) (length found) is in
          ap (λ (y : Part). position (found ++ e ∷ []) y.place.whole y.place.at) (sym m.0) ∙ place_last found e le ∙ sym m.1
    ]

    pick : (c : Bool) → nat_lt (position found e.place.whole e.place.at) (length found) ≡ c →
        AreOnce (if c then found else found ++ e ∷ [])
    pick true is = h
    pick false is = pushed is

once_with_all : (found es : List Part) → AreOnce found → AreOnce (with_parts found es)
once_with_all found [] h = h
once_with_all found (e ∷ es) h = once_with_all (with_part found e) es (once_with found e h)

-- the list of the parts of two types has each once
parts_once : (s r : Tree) → AreOnce (parts_of s r)
parts_once s r = once_with_all [] (parts (top_of s) s ++ parts (top_of r) r) (λ k x g. absurd (cc g))

-- a terminated type has no labels
ended_labels : (t : Tree) (a : Label) → terminated t ≡ true → Contains (labels_in t) a → ⊥
ended_labels skip a e c = omega (arith, c.1)
ended_labels (send b) a e c = cc e
ended_labels (receive b) a e c = cc e
ended_labels close a e c = cc e
ended_labels wait a e c = cc e
ended_labels (select cs) a e c = cc e
ended_labels (offer cs) a e c = cc e
ended_labels (seq s r) a e c =
    let h = and_parts (terminated s) (terminated r) e in
    ⊎_elim (ended_labels s a h.0) (ended_labels r a h.1) (Contains-append_cases (labels_in s) (labels_in r) a c)
ended_labels (rec s) a e c = ended_labels s a e c
ended_labels (back k) a e c = cc e
ended_labels (var k) a e c = cc e
ended_labels (plain b) a e c = cc e
ended_labels (arrow u s r) a e c = cc e
ended_labels (pair s r) a e c = cc e
ended_labels (named k) a e c = cc e

module _ (n : Numbers) (letters : List Label) (rows : Productions) where
  -- the part has the row of its equation
  abbrev IsRow : Part → Type 0
  IsRow e = row_of rows (node_at n e.place) ≡ rules_by rows (part_equation n letters e)

  mutual
    -- each choice and `rec` in a type has the row of its equation
    part_rows : (p : Place) (t : Tree) → HasRows n letters rows p t → Every IsRow (parts p t)
    part_rows p skip h = tt
    part_rows p (send b) h = tt
    part_rows p (receive b) h = tt
    part_rows p close h = tt
    part_rows p wait h = tt
    part_rows p (select cs) h = (h.0, branch_rows (place_past (own_place p (select cs)) 1) cs h.1)
    part_rows p (offer cs) h = (h.0, branch_rows (place_past (own_place p (offer cs)) 1) cs h.1)
    part_rows p (seq s r) h = every_both IsRow (parts (place_past p 1) s) (parts (place_past p (1 + nodes s)) r)
        (part_rows (place_past p 1) s h.0) (part_rows (place_past p (1 + nodes s)) r h.1)
    part_rows p (rec s) h = pick (terminated s) refl (λ e. part_rows (body_place (own_place p (rec s))) s (h e).1)
      where
        pick : (c : Bool) → terminated s ≡ c → (terminated s ≡ false → Every IsRow (parts (body_place (own_place p (rec s))) s)) →
            Every IsRow (if c then [] else record { place = own_place p (rec s); type = rec s } ∷ parts
            (body_place (own_place p (rec s))) s)
        pick true e body = tt
        pick false e body = ((h e).0, body e)
    part_rows p (back k) h = tt
    part_rows p (var k) h = tt
    part_rows p (plain b) h = absurd h
    part_rows p (arrow u s r) h = absurd h
    part_rows p (pair s r) h = absurd h
    part_rows p (named k) h = absurd h

    branch_rows : (p : Place) (cs : Branches) → HaveRows n letters rows p cs → Every IsRow (parts_all p cs)
    branch_rows p none h = tt
    branch_rows p (branch l s cs) h = every_both IsRow (parts (place_past p 1) s) (parts_all (place_past p (1 + nodes s)) cs)
        (part_rows (place_past p 1) s h.0) (branch_rows (place_past p (1 + nodes s)) cs h.1)

  abbrev HasNameRow : Label → Type 0
  HasNameRow a = row_of rows (n.name a) ≡ name_rules n letters a

  -- the only label of a message or variable, or Close or Wait
  only : (a b : Label) → HasNameRow b → Contains (b ∷ []) a → HasNameRow a
  only a b h c = ⊎_elim (λ e. subst HasNameRow e h) (λ m. absurd (omega (arith, m.1))) (from_contains [] a b c)

  mutual
    -- each message and variable in a type has its label's row, and so have Close and Wait
    name_rows : (p : Place) (t : Tree) → HasRows n letters rows p t →
        (a : Label) → is_name a ≡ true → Contains (labels_in t) a → HasNameRow a
    name_rows p skip h a is c = absurd (omega (arith, c.1))
    name_rows p (send b) h a is c = only a (Send b) h c
    name_rows p (receive b) h a is c = only a (Receive b) h c
    name_rows p close h a is c = only a Close h c
    name_rows p wait h a is c = only a Wait h c
    name_rows p (select cs) h a is c = names_rows Select (λ l. refl) (place_past (own_place p (select cs)) 1) cs h.1 a is c
    name_rows p (offer cs) h a is c = names_rows Offer (λ l. refl) (place_past (own_place p (offer cs)) 1) cs h.1 a is c
    name_rows p (seq s r) h a is c =
        ⊎_elim (name_rows (place_past p 1) s h.0 a is) (name_rows (place_past p (1 + nodes s)) r h.1 a is)
        (Contains-append_cases (labels_in s) (labels_in r) a c)
    name_rows p (rec s) h a is c = pick (terminated s) refl (λ e. name_rows (body_place (own_place p (rec s))) s (h e).1 a is c)
      where
        pick : (b : Bool) → terminated s ≡ b → (terminated s ≡ false → HasNameRow a) → HasNameRow a
        pick true e body = absurd (ended_labels s a e c)
        pick false e body = body e
    name_rows p (back k) h a is c = absurd (omega (arith, c.1))
    name_rows p (var k) h a is c = only a (Var k) h c
    name_rows p (plain b) h a is c = absurd h
    name_rows p (arrow u s r) h a is c = absurd h
    name_rows p (pair s r) h a is c = absurd h
    name_rows p (named k) h a is c = absurd h

    names_rows : (make : List ℕ → Label) → ((l : List ℕ) → is_name (make l) ≡ false) →
        (p : Place) (cs : Branches) → HaveRows n letters rows p cs →
        (a : Label) → is_name a ≡ true → Contains (branch_labels make cs) a → HasNameRow a
    names_rows make no_name p none h a is c = absurd (omega (arith, c.1))
    names_rows make no_name p (branch l s cs) h a is c =
        ⊎_elim (λ e. absurd (cc (sym (no_name l) ∙ ap is_name e ∙ is)))
        (λ m. ⊎_elim (name_rows (place_past p 1) s h.0 a is) (names_rows make no_name (place_past p (1 + nodes s)) cs h.1 a is)
        (Contains-append_cases (labels_in s) (branch_labels make cs) a m))
        (from_contains (labels_in s ++ branch_labels make cs) a (make l) c)

-- the rows of a grammar solve its equations

module _ (s r : Tree) (letters : List Label) (rows : Productions) (h : IsGrammar s r letters rows) where
  abbrev found : List Part
  found = parts_of s r

  abbrev n : Numbers
  n = numbers_by letters found

  -- each part in the list has the row of its equation
  found_rows : Every (IsRow n letters rows) found
  found_rows =
      every_with (IsRow n letters rows) [] (parts (top_of s) s ++ parts (top_of r) r) tt
      (every_both (IsRow n letters rows) (parts (top_of s) s) (parts (top_of r) r) (part_rows n letters rows (top_of s) s h.left)
      (part_rows n letters rows (top_of r) r h.right))

  -- each letter of a message or variable has its row, and so have Close and Wait
  found_name : (a : Label) → is_name a ≡ true → Contains letters a → row_of rows (n.name a) ≡ name_rules n letters a
  found_name a is c =
      ⊎_elim (name_rows n letters rows (top_of s) s h.left a is) (name_rows n letters rows (top_of r) r h.right a is)
      (Contains-append_cases (labels_in s) (labels_in r) a ((h.labels.1 a).0 c))

  -- each non-terminal has the row of its equation
  grammar_row : (m : ℕ) (q : Equation) → slice_get (equations_by letters found) m ≡ Some q → row_of rows m ≡ rules_by rows q
  grammar_row m q g = elim (equation_cases letters found m q g) [
    | inl c ↦
        let there = name_in letters m c.0 c.1 in
        ap (row_of rows) (sym (name_place letters m c.0 h.labels.0 c.1)) ∙ found_name c.0 there.0 there.1
        ∙ ap (rules_by rows) c.2
    | inr d ↦ elim d [
      | inl c ↦
          let at : m ≡ length (names letters) + position found c.1.place.whole c.1.place.at = c.2 ∙ ap
          (λ k. length (names letters) + k) (sym (parts_once s r c.0 c.1 c.3)) in
          ap (row_of rows) at ∙ every_get (IsRow n letters rows) found found_rows c.0 c.1 c.3 ∙ ap (rules_by rows) c.4
      | inr c ↦ ap (row_of rows) c.0 ∙ h.dead ∙ ap (rules_by rows) c.1
    ]
  ]

-- grounded equations have at most one solution
module _ (equations : List Equation) (rank : ℕ → ℕ) (bound : ℕ) (grounded : IsGrounded rank bound equations)
    (rows rules : Productions) (one : Solves rows equations) (two : Solves rules equations) where
  same_row : (fuel m : ℕ) → rank m < fuel → m < length equations → row_of rows m ≡ row_of rules m
  same_row zero m lt there = absurd (omega arith)
  same_row (suc fuel) m lt there =
      let e = get_there equations m there in
      one.each m e.0 e.1 ∙ pick (λ z. same_row fuel z) e.0 e.1 ∙ sym (two.each m e.0 e.1)
    where
      pick : ((z : ℕ) → rank z < fuel → z < length equations → row_of rows z ≡ row_of rules z) →
          (e : Equation) → slice_get equations m ≡ Some e → rules_by rows e ≡ rules_by rules e
      pick next (own row) is = refl
      pick next (like []) is = refl
      pick next (like (z ∷ d)) is =
          let g = grounded.begins m (z ∷ d) is in
          let same : g.first ≡ z = cc in
          let within : g.first < length equations = g.within in
          let up : rank g.first < rank m = g.lower in
          let at : rank g.first ≡ rank z = ap rank same in
          ap (rules_before d) (next z (omega arith) (omega arith))

  same_rows : rows ≡ rules
  same_rows = ext_get_or [] rows rules (one.count ∙ sym two.count)
      (λ m lt. same_row (suc bound) m (let le = grounded.most m in omega arith) (let long = one.count in omega arith))

module _ (vars others : List Kind) (s r : Tree) (ws : IsSession vars s) (wr : IsSession others r) (few_s : nodes s ≤ most_nodes)
    (few_r : nodes r ≤ most_nodes) where
  -- a grammar solves the equations of the two types
  pub grammar_solves : (letters : List Label) (rows : Productions) → IsGrammar s r letters rows →
      Solves rows (equations_by letters (parts_of s r))
  grammar_solves letters rows h = record {
    count = h.count
        ∙ sym (equations_length letters (parts_of s r));
    each = grammar_row s r letters rows h;
  }

  -- its letters are determined, and so are its rows
  same_labels : (letters more : List Label) → AreLetters s r letters → AreLetters s r more → letters ≡ more
  same_labels letters more h k = same_letters letters more h.0 k.0 (λ a c. (k.1 a).1 ((h.1 a).0 c))
      (λ a c. (h.1 a).1 ((k.1 a).0 c))

  same_grammar : (letters : List Label) (rows rules : Productions) → IsGrammar s r letters rows → IsGrammar s r letters rules →
      rows ≡ rules
  same_grammar letters rows rules h k =
      same_rows (equations_by letters (parts_of s r))
      (rank letters (parts_of s r) (seated vars s r ws (others, wr) few_s few_r letters h.labels)) most_rank
      (equations_grounded vars s r ws (others, wr) few_s few_r letters h.labels) rows rules
      (grammar_solves letters rows h) (grammar_solves letters rules k)

-- two session types within the limit on nodes have at most one grammar
pub one_grammar : OneGrammar
one_grammar vars others s r ws wr few_s few_r letters more rows rules h k =
    let same : letters ≡ more = same_labels vars others s r ws wr few_s few_r letters more h.labels k.labels in (
      same,
      same_grammar vars others s r ws wr few_s few_r letters rows rules h
          (subst (λ ls. IsGrammar s r ls rules) (sym same) k),
    )
