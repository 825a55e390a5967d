-- Rules in order have the same letters, one after the other, exactly where the same letters have a rule.
use Rattle.std.proofs.Common.{◌≡◌, ◌≢◌, ◌↔◌, ℕ, zero, suc, ◌<◌, ◌≤◌, drop, length, List, [], ◌∷◌, ◌++◌, refl, sym, ◌∙◌, ap, arith, get_or, Some, true, false, ◌==◌, cond}
use Rattle.std.specs.Prelude.{IsSome, slice_get}
use Rattle.fst_base.proofs.Options.{mapped_there, unmapped_there}
use Rattle.std.proofs.lemmas.Bool.{eq-eqb}
use Rattle.std.proofs.lemmas.Option.{get_or_from_slice_get, slice_get_within}
use Rattle.fst_base.proofs.Bools.{and_parts, same_number}
use Rattle.fst_words.specs.declared.rules.Rule.{Rule}
use Rattle.fst_words.specs.Ordered.{AreOrdered, IsAbove}
use Rattle.fst_words.specs.Words.{Productions, row_of, rule_of, step, first_row}
use Rattle.fst_words.proofs.Laws.{present}
use Rattle.fst_basis.specs.Basis.{IsPair, same_letters}
use Rattle.fst_basis.specs.declared.proof.Pair.{Pair}

no_rules : (i : ℕ) → drop {A = Rule} i [] ≡ []
no_rules zero = refl
no_rules (suc i) = refl

-- where there are more rules on the right, these don't have the same letters
longer : (rs : List Rule) (i : ℕ) → i < length rs → same_letters [] (drop i rs) ≡ false
longer [] i k = absurd (omega arith)
longer (r ∷ rs) zero k = refl
longer (r ∷ rs) (suc i) k = longer rs i (omega arith)

pub longer_right : (ls rs : List Rule) (i : ℕ) → length ls ≤ i → i < length rs → same_letters (drop i ls) (drop i rs) ≡ false
longer_right [] rs i l k = rw (no_rules i) (longer rs i k)
longer_right (x ∷ ls) rs zero l k = absurd (omega arith)
longer_right (x ∷ ls) [] (suc i) l k = absurd (omega arith)
longer_right (x ∷ ls) (r ∷ rs) (suc i) l k = longer_right ls rs i (omega arith) (omega arith)

-- rules with the same letters have a rule for the same ones
pub same_have : (ls rs : List Rule) (a : ℕ) → same_letters ls rs ≡ true → IsSome (rule_of ls a) ↔ IsSome (rule_of rs a)
same_have [] [] a e = (λ x. x, λ x. x)
same_have [] (r ∷ rs) a e = cc
same_have (l ∷ ls) [] a e = cc
same_have (l ∷ ls) (r ∷ rs) a e =
    let p = and_parts (l.letter == r.letter) (same_letters ls rs) e in
    let letter = same_number l.letter r.letter p.0 in
    rw letter (
    elim (r.letter == a) as (λ b. IsSome (cond b (Some l.word) (rule_of ls a)) ↔ IsSome (cond b (Some r.word) (rule_of rs a))) [
      | true ↦ (λ x. refl, λ x. refl)
      | false ↦ same_have ls rs a p.1
    ])

-- the letters behind the first are above what it is above
above_later : (l : Rule) (ls : List Rule) (a : ℕ) → AreOrdered (l ∷ ls) → a < l.letter → IsAbove a ls
above_later l [] a o below = tt
above_later l (r ∷ ls) a o below = let first : l.letter < r.letter = o.0 in omega arith

-- a letter that all letters are above has no rule
none_below : (ls : List Rule) (a : ℕ) → AreOrdered ls → IsAbove a ls → IsSome (rule_of ls a) → ⊥
none_below [] a o below h = cc
none_below (l ∷ ls) a o below h =
    (elim (l.letter == a) as (λ b. (l.letter == a) ≡ b → IsSome (cond b (Some l.word) (rule_of ls a)) → ⊥) [
      | true ↦ λ e h. let is = same_number l.letter a e in omega arith
      | false ↦ λ e h. none_below ls a o.1 (above_later l ls a o below) h
    ]) refl h

-- the first rule is there for its letter
first_has : (l : Rule) (ls : List Rule) → IsSome (rule_of (l ∷ ls) l.letter)
first_has l ls =
    let e = eq-eqb l.letter l.letter refl in
    rw e refl

-- a letter has a rule behind the first one exactly where it is another letter, and has a rule
later_have : (l r : Rule) (ls rs : List Rule) → AreOrdered (l ∷ ls) → AreOrdered (r ∷ rs) → l.letter ≡ r.letter → (a : ℕ) →
    IsSome (rule_of (l ∷ ls) a) ↔ IsSome (rule_of (r ∷ rs) a) → IsSome (rule_of ls a) ↔ IsSome (rule_of rs a)
later_have l r ls rs o q letter a =
    (elim (l.letter == a) as (λ b. (l.letter == a) ≡ b →
    IsSome (cond b (Some l.word) (rule_of ls a)) ↔ IsSome (rule_of (r ∷ rs) a) →
    IsSome (rule_of ls a) ↔ IsSome (rule_of rs a)) [
      | true ↦ λ e h.
          let is = same_number l.letter a e in
          let one : IsAbove a ls = rw is at o.0 in
          let two : IsAbove a rs = rw (sym letter ∙ is) at q.0 in
          (λ x. absurd (none_below ls a o.1 one x), λ x. absurd (none_below rs a q.1 two x))
      | false ↦ λ e h.
          let other : (r.letter == a) ≡ false = rw letter at e in
          rw other at h
    ]) refl

pub have_same : (ls rs : List Rule) → AreOrdered ls → AreOrdered rs →
    ((a : ℕ) → IsSome (rule_of ls a) ↔ IsSome (rule_of rs a)) → same_letters ls rs ≡ true
have_same [] [] o q h = refl
have_same [] (r ∷ rs) o q h = absurd (let f : false ≡ true = (h r.letter).1 (first_has r rs) in cc)
have_same (l ∷ ls) [] o q h = absurd (let f : false ≡ true = (h l.letter).0 (first_has l ls) in cc)
have_same (l ∷ ls) (r ∷ rs) o q h =
    let least : l.letter < r.letter → ⊥ = λ x. none_below (r ∷ rs) l.letter q x ((h l.letter).0 (first_has l ls)) in
    let most : r.letter < l.letter → ⊥ = λ x. none_below (l ∷ ls) r.letter o x ((h r.letter).1 (first_has r rs)) in
    let letter : l.letter ≡ r.letter = omega arith in
    let first = eq-eqb l.letter r.letter letter in
    let later = have_same ls rs o.1 q.1 (λ a. later_have l r ls rs o q letter a (h a)) in
    rw (first, later) refl

-- a word moves by a letter exactly where its first row has a rule for it
moves : (rows : Productions) (w : List ℕ) (a : ℕ) → IsSome (step rows w a) ↔ IsSome (rule_of (first_row rows w) a)
moves rows [] a = (λ x. x, λ x. x)
moves rows (n ∷ w) a = (
  unmapped_there (λ v. v ++ w) (rule_of (row_of rows n) a),
  mapped_there
      (λ v. v ++ w) (rule_of (row_of rows n) a),
)

-- two words are a pair exactly where their first rows have the same letters
pub pair_told : (rows : Productions) (b : Pair) → b.left ≢ [] → b.right ≢ [] → AreOrdered (first_row rows b.left) →
    AreOrdered (first_row rows b.right) →
    (same_letters (first_row rows b.left) (first_row rows b.right) ≡ true) ↔ IsPair rows b
pair_told rows b left right o q = (
  (λ e. record {
    left = left;
    right = right;
    letters = λ a. let h = same_have (first_row rows b.left) (first_row rows b.right) a e in (
      (λ x. (moves rows b.right a).1 (h.0 ((moves rows b.left a).0 x))),
      (λ x. (moves rows b.left a).1 (h.1 ((moves rows b.right a).0 x))),
    );
  }),
  (λ p. have_same (first_row rows b.left) (first_row rows b.right) o q (λ a. (
    (λ x. (moves rows b.right a).0 ((p.letters a).0 ((moves rows b.left a).1 x))),
    (λ x. (moves rows b.left a).0 ((p.letters a).1 ((moves rows b.right a).1 x))),
  ))),
)

-- the rule at a place is the one that its letter finds
pub rule_there : (rules : List Rule) (i : ℕ) (r : Rule) → AreOrdered rules → slice_get rules i ≡ Some r →
    rule_of rules r.letter ≡ Some r.word
rule_there rules i r o e =
    let is : get_or rules i r ≡ r = get_or_from_slice_get rules i r r e in
    present rules r.letter i r o (slice_get_within rules i r e) (ap (λ (z : Rule). z.letter) is) ∙ ap
    (λ (z : Rule). Some z.word) is

-- rules with the same letters have them at the same places
pub letters_at : (rs qs : List Rule) (i : ℕ) (r q : Rule) → same_letters rs qs ≡ true → slice_get rs i ≡ Some r →
    slice_get qs i ≡ Some q → r.letter ≡ q.letter
letters_at [] qs i r q e ri qi = absurd (cc ri)
letters_at (x ∷ rs) [] i r q e ri qi = absurd (cc e)
letters_at (x ∷ rs) (y ∷ qs) zero r q e ri qi =
    let p = and_parts (x.letter == y.letter) (same_letters rs qs) e in
    ap (λ (z : Rule). z.letter) (let f : r ≡ x = cc in f) ∙ same_number x.letter y.letter p.0 ∙ ap
    (λ (z : Rule). z.letter) (let f : y ≡ q = cc in f)
letters_at (x ∷ rs) (y ∷ qs) (suc i) r q e ri qi =
    letters_at rs qs i r q (and_parts (x.letter == y.letter) (same_letters rs qs) e).1 ri qi

-- and are as many
pub as_long : (rs qs : List Rule) → same_letters rs qs ≡ true → length rs ≡ length qs
as_long [] [] e = refl
as_long [] (q ∷ qs) e = absurd (cc e)
as_long (r ∷ rs) [] e = absurd (cc e)
as_long (r ∷ rs) (q ∷ qs) e = ap suc (as_long rs qs (and_parts (r.letter == q.letter) (same_letters rs qs) e).1)
