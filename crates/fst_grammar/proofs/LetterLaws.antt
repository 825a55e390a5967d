-- The places of labels among letters.
use Rattle.std.proofs.Common.{◌≡◌, ◌∙◌, ◌<◌, refl, sym, ap, subst, arith, ℕ, suc, List, [], ◌∷◌, length, Bool, true, false, Option, Some, None, ◌==◌}
use Rattle.std.specs.Prelude.{if◌then◌else◌, slice_get, option_map}
use Rattle.std.proofs.lemmas.Bool.{eqb-true, eq-eqb}
use Rattle.fst_types.specs.declared.label.Label.{Label}
use Rattle.fst_types.specs.Order.{same_label}
use Rattle.fst_types.proofs.Laws.{same_label-same, same_label-itself}
use Rattle.fst_words.specs.Words.{letter_of}
use Rattle.fst_parts.specs.Labels.{is_name, names, label_position}

-- the label is among the letters
abbrev pub Known : List Label → Label → Type 0
Known letters a = label_position letters a < length letters

-- what stands at the place of a label is the label
pub located : (letters : List Label) (a : Label) → Known letters a → slice_get letters (label_position letters a) ≡ Some a
located [] a h = absurd (omega arith)
located (l ∷ letters) a h = pick (located letters a) (same_label a l) refl h
  where
    pick : (Known letters a → slice_get letters (label_position letters a) ≡ Some a) → (c : Bool) → same_label a l ≡ c →
        (if c then 0 else suc (label_position letters a)) < suc (length letters) →
        slice_get (l ∷ letters) (if c then 0 else suc (label_position letters a)) ≡ Some a
    pick next true is lt = ap Some (sym (same_label-same a l is))
    pick next false is lt = next (omega arith)

-- the letter of a label is its place
letter_place : (letters : List Label) (a : Label) (i : ℕ) → letter_of letters a ≡ Some i → label_position letters a ≡ i
letter_place [] a i e = absurd (cc e)
letter_place (l ∷ letters) a i e = pick (letter_place letters a) (same_label a l) e
  where
    behind : ((j : ℕ) → letter_of letters a ≡ Some j → label_position letters a ≡ j) →
        (o : Option ℕ) → letter_of letters a ≡ o → option_map suc o ≡ Some i → suc (label_position letters a) ≡ i
    behind next None is e = absurd (cc e)
    behind next (Some j) is e =
        let at : suc j ≡ i = cc in
        ap suc (next j is) ∙ at

    pick : ((j : ℕ) → letter_of letters a ≡ Some j → label_position letters a ≡ j) → (c : Bool) →
        (if c then Some 0 else option_map suc (letter_of letters a)) ≡ Some i →
        (if c then 0 else suc (label_position letters a)) ≡ i
    pick next true e = cc
    pick next false e = behind next (letter_of letters a) refl e

-- a label without a letter has no place
no_place : (letters : List Label) (a : Label) → letter_of letters a ≡ None → label_position letters a ≡ length letters
no_place [] a e = refl
no_place (l ∷ letters) a e = pick (no_place letters a) (same_label a l) e
  where
    behind : (letter_of letters a ≡ None → label_position letters a ≡ length letters) →
        (o : Option ℕ) → letter_of letters a ≡ o → option_map suc o ≡ None → suc (label_position letters a) ≡ suc (length letters)
    behind next None is e = ap suc (next is)
    behind next (Some j) is e = absurd (cc e)

    pick : (letter_of letters a ≡ None → label_position letters a ≡ length letters) → (c : Bool) →
        (if c then Some 0 else option_map suc (letter_of letters a)) ≡ None →
        (if c then 0 else suc (label_position letters a)) ≡ suc (length letters)
    pick next true e = absurd (cc e)
    pick next false e = behind next (letter_of letters a) refl e

same_some : (x y : Label) → Some x ≡ Some y → x ≡ y
same_some x y e = cc

-- known labels at one place are one
one_place : (letters : List Label) (l a : Label) → Known letters l → label_position letters l ≡ label_position letters a → l ≡ a
one_place letters l a k e =
    let other : Known letters a = omega arith in
    same_some l a (sym (located letters l k) ∙ ap (slice_get letters) e ∙ located letters a other)

-- a letter is that of a known label exactly where the labels are the same
pub tells : (letters : List Label) (l a : Label) (i : ℕ) → Known letters l → letter_of letters a ≡ Some i →
    (label_position letters l == i) ≡ same_label a l
tells letters l a i k e = test (label_position letters l == i) refl (same_label a l) refl
  where
    at : label_position letters a ≡ i
    at = letter_place letters a i e

    test : (b : Bool) → (label_position letters l == i) ≡ b → (c : Bool) → same_label a l ≡ c → b ≡ c
    test true e true f = refl
    test true e false f =
        let is : l ≡ a = one_place letters l a k (eqb-true (label_position letters l) i e ∙ sym at) in
        absurd (cc (sym f ∙ ap (same_label a) is ∙ same_label-itself a))
    test false e true f =
        let is : label_position letters l ≡ i = ap (label_position letters) (sym (same_label-same a l f)) ∙ at in
        absurd (cc (sym e ∙ eq-eqb (label_position letters l) i is))
    test false e false f = refl

-- a label without a letter is none of the known ones
pub unknown : (letters : List Label) (l a : Label) → Known letters l → letter_of letters a ≡ None → same_label a l ≡ false
unknown letters l a k e = pick (same_label a l) refl
  where
    pick : (c : Bool) → same_label a l ≡ c → c ≡ false
    pick true is =
        let at : label_position letters a ≡ length letters = no_place letters a e in
        let same : label_position letters a ≡ label_position letters l = ap (label_position letters) (same_label-same a l is) in
        absurd (omega arith)
    pick false is = refl

-- a known label of a message or variable is among the names, and so are Close and Wait
pub name_known : (letters : List Label) (a : Label) → is_name a ≡ true → Known letters a → Known (names letters) a
name_known [] a is h = absurd (omega arith)
name_known (l ∷ letters) a is h = pick (name_known letters a is) (same_label a l) refl (is_name l) refl h
  where
    pick : (Known letters a → Known (names letters) a) → (c : Bool) → same_label a l ≡ c → (d : Bool) → is_name l ≡ d →
        (if c then 0 else suc (label_position letters a)) < suc (length letters) →
        Known (if d then l ∷ names letters else names letters) a
    pick next true e true f lt =
        subst (λ b. (if b then 0 else suc (label_position (names letters) a)) < suc (length (names letters))) (sym e)
        (let z : 0 < suc (length (names letters)) = omega arith in z)
    pick next true e false f lt = absurd (cc (sym f ∙ ap is_name (sym (same_label-same a l e)) ∙ is))
    pick next false e true f lt =
        let n = next (omega arith) in
        subst (λ b. (if b then 0 else suc (label_position (names letters) a)) < suc (length (names letters))) (sym e)
        (let z : suc (label_position (names letters) a) < suc (length (names letters)) = omega arith in z)
    pick next false e false f lt = next (omega arith)
