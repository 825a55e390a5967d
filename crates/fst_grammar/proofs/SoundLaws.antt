-- The words of parts stay among the non-terminals, and the rules of choices are in order.
use Rattle.std.proofs.Common.{◌≡◌, ◌∙◌, ◌+◌, ◌<◌, ◌≤◌, refl, sym, ap, arith, ℕ, zero, suc, List, [], ◌∷◌, length, Bool, true, false}
use Rattle.std.specs.Prelude.{All, Contains, if◌then◌else◌}
use Rattle.std.specs.declared.cmp.Ordering.TheVariants.{Less}
use Rattle.std.specs.Ordering.{nat_cmp, is_eq}
use Rattle.std.specs.Cmp.Lexicographic.{slice_cmp}
use Rattle.std.proofs.lemmas.List.Elements.{All-cons, All-append}
use Rattle.std.proofs.lemmas.List.Folds.{list_any_at}
use Rattle.fst_types.specs.Tree.{Tree, skip, send, receive, close, wait, select, offer, seq, rec, back, var, plain, arrow, pair, named, Branches, none, branch}
use Rattle.fst_types.specs.Size.{nodes}
use Rattle.fst_types.specs.Order.{label_cmp, same_label, AreRising}
use Rattle.fst_types.specs.declared.label.Label.{Label}
use Rattle.fst_types.specs.declared.label.Label.TheVariants.{Send, Receive, Select, Offer, Close, Wait, Var}
use Rattle.fst_types.proofs.Laws.{same_label-same, same_label-itself, label_cmp_total}
use Rattle.fst_base.specs.Order.{IsRising}
use Rattle.fst_base.proofs.Orders.{rising_tail}
use Rattle.fst_lts.specs.Step.{terminated, is_end}
use Rattle.fst_words.specs.declared.rules.Rule.{Rule}
use Rattle.fst_words.specs.Words.{WordBelow}
use Rattle.fst_words.specs.Ordered.{AreOrdered}
use Rattle.fst_parts.specs.Place.{Place, place_past, own_place, body_place, binder}
use Rattle.fst_grammar.specs.Word.{Numbers, node_at, word}
use Rattle.fst_parts.specs.Labels.{is_name, names, label_position}
use Rattle.fst_parts.specs.Once.{Part}
use Rattle.fst_grammar.specs.Parts.{parts, parts_all, numbers_by, dead_count}
use Rattle.fst_grammar.specs.Rules.{name_word, branch_rules}
use Rattle.fst_grammar.proofs.LetterLaws.{Known, name_known}
use Rattle.fst_grammar.proofs.SeekLaws.{Every, every_both}
use Rattle.fst_grammar.proofs.FitLaws.{AllKnown, AreBinders, IsFit, AreFit, fit_first, fit_second, fit_select, fit_offer, fit_body, fit_branch, fit_others, own_select, own_offer, own_rec}
use Rattle.fst_base.proofs.Orders.{rising_tail}

-- rising letters

pub rising_first : (l a : Label) (letters : List Label) → IsRising label_cmp (l ∷ letters) → Known letters a →
    label_cmp l a ≡ Less
rising_first l a [] h k = absurd (omega arith)
rising_first l a (m ∷ letters) h k = pick (rising_first m a letters h.1) (same_label a m) refl k
  where
    pick : (Known letters a → label_cmp m a ≡ Less) → (c : Bool) → same_label a m ≡ c →
        (if c then 0 else suc (label_position letters a)) < suc (length letters) → label_cmp l a ≡ Less
    pick next true is lt = ap (label_cmp l) (same_label-same a m is) ∙ h.0
    pick next false is lt = label_cmp_total.trans l m a h.0 (next (omega arith))

pub not_less : (a : Label) → label_cmp a a ≡ Less → ⊥
not_less a e = absurd (cc (sym (ap is_eq e) ∙ same_label-itself a))

-- a lesser label has an earlier place
pub place_rises : (letters : List Label) (a b : Label) → IsRising label_cmp letters → Known letters a → Known letters b →
    label_cmp a b ≡ Less → label_position letters a < label_position letters b
place_rises [] a b h j k less = absurd (omega arith)
place_rises (l ∷ letters) a b h j k less = pick (place_rises letters a b (rising_tail label_cmp l letters h))
    (same_label a l) refl (same_label b l) refl j k
  where
    pick : (Known letters a → Known letters b → label_cmp a b ≡ Less → label_position letters a < label_position letters b) →
        (c : Bool) → same_label a l ≡ c → (d : Bool) → same_label b l ≡ d →
        (if c then 0 else suc (label_position letters a)) < suc (length letters) →
        (if d then 0 else suc (label_position letters b)) < suc (length letters) →
        (if c then 0 else suc (label_position letters a)) < (if d then 0 else suc (label_position letters b))
    pick next true e true f j k =
        absurd (not_less l (ap (λ x. label_cmp x l) (sym (same_label-same a l e)) ∙ ap (label_cmp a) (sym (same_label-same b l f))
        ∙ less))
    pick next true e false f j k = omega arith
    pick next false e true f j k =
        let up : label_cmp l a ≡ Less = rising_first l a letters h (omega arith) in
        let down : label_cmp a l ≡ Less = ap (label_cmp a) (sym (same_label-same b l f)) ∙ less in
        absurd (not_less l (label_cmp_total.trans l a l up down))
    pick next false e false f j k = let lt = next (omega arith) (omega arith) less in omega arith

-- a choice's labels in the order of their bytes are in label order
abbrev pub IsMaker : (List ℕ → Label) → Type 0
IsMaker make = (l m : List ℕ) → slice_cmp nat_cmp l m ≡ Less → label_cmp (make l) (make m) ≡ Less

pub selects_rise : IsMaker Select
selects_rise l m e = e

pub offers_rise : IsMaker Offer
offers_rise l m e = e

pub rules_rise : (n : Numbers) (letters : List Label) (make : List ℕ → Label) (p : Place) (cs : Branches) → IsMaker make →
    IsRising label_cmp letters → AllKnown letters make cs → AreRising cs →
    AreOrdered (branch_rules n letters make p cs)
rules_rise n letters make p none up h k r = tt
rules_rise n letters make p (branch l s none) up h k r = (tt, tt)
rules_rise n letters make p (branch l s (branch m t cs)) up h k r = (
  place_rises letters (make l) (make m) h k.0 k.2.0 (up l m r.0),
  rules_rise n letters make (place_past p (1 + nodes s)) (branch m t cs) up h k.2 r.1,
)

pub rules_below : (n : Numbers) (letters : List Label) (make : List ℕ → Label) (p : Place) (cs : Branches) →
    AllKnown letters make cs → All (λ (r : Rule). r.letter < length letters) (branch_rules n letters make p cs)
rules_below n letters make p none k = λ i d lt. absurd (omega arith)
rules_below n letters make p (branch l s cs) k =
    All-cons (λ (r : Rule). r.letter < length letters) _ (branch_rules n letters make (place_past p (1 + nodes s)) cs) k.0
    (rules_below n letters make (place_past p (1 + nodes s)) cs k.2)

-- the empty word has no number
pub none_below : (total : ℕ) → WordBelow total []
none_below total i d lt = absurd (omega arith)

one_below : (total z : ℕ) → z < total → WordBelow total (z ∷ [])
one_below total z h = All-cons (λ k. k < total) z [] h (none_below total)

-- where a letter ends there is the dead non-terminal
pub name_word_below : (letters : List Label) (found : List Part) (a : Label) → Contains letters a → WordBelow
    (length (names letters) + length found + dead_count letters) (name_word (numbers_by letters found) a)
name_word_below letters found a m = pick (is_end a) refl
  where
    pick : (c : Bool) → is_end a ≡ c → WordBelow (length (names letters) + length found + dead_count letters)
        (if c then (length (names letters) + length found) ∷ [] else [])
    pick true e =
        let one : dead_count letters ≡ 1 = ap (λ c. if c then 1 else 0)
        (list_any_at is_end letters m.0 a m.1 (ap is_end m.2 ∙ e)) in
        one_below _ _ (omega arith)
    pick false e = none_below _

module _ (letters : List Label) (found : List Part) (total : ℕ) (wide : length (names letters) + length found ≤ total) where
  abbrev n : Numbers
  n = numbers_by letters found

  name_below : (a : Label) → is_name a ≡ true → Known letters a → WordBelow total (n.name a ∷ [])
  name_below a is k = let lt = name_known letters a is k in one_below total (n.name a) (omega arith)

  binder_below : (w : Tree) (bs : List ℕ) → AreBinders found w bs → (k : ℕ) → k < length bs → n.node w (binder bs k) < total
  binder_below w [] h k lt = absurd (omega arith)
  binder_below w (b ∷ bs) h zero lt = let has = h.0.2 in omega arith
  binder_below w (b ∷ bs) h (suc k) lt = binder_below w bs h.1 k (omega arith)

  -- a word has no number beyond the non-terminals
  pub word_below : (p : Place) (t : Tree) → IsFit letters found p t → WordBelow total (word n p t)
  word_below p skip h = none_below total
  word_below p (send b) h = name_below (Send b) refl h.known
  word_below p (receive b) h = name_below (Receive b) refl h.known
  word_below p close h = name_below Close refl h.known
  word_below p wait h = name_below Wait refl h.known
  word_below p (select cs) h = let has = (own_select letters found p cs h).1 in
      one_below total (node_at n (own_place p (select cs))) (omega arith)
  word_below p (offer cs) h = let has = (own_offer letters found p cs h).1 in
      one_below total (node_at n (own_place p (offer cs))) (omega arith)
  word_below p (seq s r) h =
      All-append (λ k. k < total) (word n (place_past p 1) s) (word n (place_past p (1 + nodes s)) r)
      (word_below (place_past p 1) s (fit_first letters found p s r h))
      (word_below (place_past p (1 + nodes s)) r (fit_second letters found p s r h))
  word_below p (rec s) h = pick (terminated s) refl
    where
      pick : (c : Bool) → terminated s ≡ c → WordBelow total (if c then [] else node_at n (own_place p (rec s)) ∷ [])
      pick true e = none_below total
      pick false e = let has = (own_rec letters found p s e h).1 in
          one_below total (node_at n (own_place p (rec s))) (omega arith)
  word_below p (back k) h = one_below total (n.node p.whole (binder p.binders k))
      (binder_below p.whole p.binders h.bound k h.scoped)
  word_below p (var k) h = name_below (Var k) refl h.known
  word_below p (plain b) h = absurd h.known
  word_below p (arrow u s r) h = absurd h.known
  word_below p (pair s r) h = absurd h.known
  word_below p (named k) h = absurd h.known

  pub branches_below : (make : List ℕ → Label) (p : Place) (cs : Branches) → AreFit letters found make p cs → All
      (λ (r : Rule). WordBelow total r.word) (branch_rules n letters make p cs)
  branches_below make p none h = λ i d lt. absurd (omega arith)
  branches_below make p (branch l s cs) h =
      All-cons (λ (r : Rule). WordBelow total r.word) _ (branch_rules n letters make (place_past p (1 + nodes s)) cs)
      (word_below (place_past p 1) s (fit_branch letters found make p l s cs h))
      (branches_below make (place_past p (1 + nodes s)) cs (fit_others letters found make p l s cs h))

module _ (letters : List Label) (found : List Part) (P : Place → Tree → Type 0)
    (at_select : (p : Place) (cs : Branches) → IsFit letters found p (select cs) → P (own_place p (select cs)) (select cs))
    (at_offer : (p : Place) (cs : Branches) → IsFit letters found p (offer cs) → P (own_place p (offer cs)) (offer cs))
    (at_rec : (p : Place) (s : Tree) → terminated s ≡ false → IsFit letters found p (rec s) → P (own_place p (rec s)) (rec s))
  where
    mutual
      -- what holds of each choice and `rec` at its place holds of all parts
      pub every_part : (p : Place) (t : Tree) → IsFit letters found p t → Every (λ e. P e.place e.type) (parts p t)
      every_part p skip h = tt
      every_part p (send b) h = tt
      every_part p (receive b) h = tt
      every_part p close h = tt
      every_part p wait h = tt
      every_part p (select cs) h = (
        at_select p cs h,
        every_branch Select (place_past (own_place p (select cs)) 1) cs (fit_select letters found p cs h),
      )
      every_part p (offer cs) h = (
        at_offer p cs h,
        every_branch Offer (place_past (own_place p (offer cs)) 1) cs (fit_offer letters found p cs h),
      )
      every_part p (seq s r) h =
          every_both (λ e. P e.place e.type) (parts (place_past p 1) s) (parts (place_past p (1 + nodes s)) r)
          (every_part (place_past p 1) s (fit_first letters found p s r h))
          (every_part (place_past p (1 + nodes s)) r (fit_second letters found p s r h))
      every_part p (rec s) h =
          pick (terminated s) refl (λ e. at_rec p s e h)
          (λ e. every_part (body_place (own_place p (rec s))) s (fit_body letters found p s e h))
        where
          pick : (c : Bool) → terminated s ≡ c → (terminated s ≡ false → P (own_place p (rec s)) (rec s)) →
              (terminated s ≡ false → Every (λ e. P e.place e.type) (parts (body_place (own_place p (rec s))) s)) →
              Every (λ e. P e.place e.type) (if c then [] else record { place = own_place p (rec s); type = rec s } ∷ parts
              (body_place (own_place p (rec s))) s)
          pick true e here body = tt
          pick false e here body = (here e, body e)
      every_part p (back k) h = tt
      every_part p (var k) h = tt
      every_part p (plain b) h = tt
      every_part p (arrow u s r) h = tt
      every_part p (pair s r) h = tt
      every_part p (named k) h = tt

      every_branch : (make : List ℕ → Label) (p : Place) (cs : Branches) → AreFit letters found make p cs → Every
          (λ e. P e.place e.type) (parts_all p cs)
      every_branch make p none h = tt
      every_branch make p (branch l s cs) h =
          every_both (λ e. P e.place e.type) (parts (place_past p 1) s) (parts_all (place_past p (1 + nodes s)) cs)
          (every_part (place_past p 1) s (fit_branch letters found make p l s cs h))
          (every_branch make (place_past p (1 + nodes s)) cs (fit_others letters found make p l s cs h))
