-- The words of a non-terminal's rules, rule by rule and letter by letter.
use Rattle.std.proofs.Common.{◌≡◌, ℕ, ◌<◌, List, [], ◌∷◌, refl, arith, Some, Bool, true, false, ◌==◌, cond, subst, zero, suc}
use Rattle.std.specs.Prelude.{All}
use Rattle.std.proofs.Common.{get_or, length}
use Rattle.std.proofs.lemmas.List.Elements.{All-head, All-tail}
use Rattle.fst_words.proofs.Laws.{present}
use Rattle.fst_words.specs.Marks.{is_marked, has_marked, IsUnnormedSet}
use Rattle.fst_words.specs.Ordered.{AreOrdered}
use Rattle.fst_words.specs.declared.rules.Rule.{Rule}
use Rattle.fst_words.specs.Words.{Productions, row_of, rule_of}

-- what is so of each rule's word is so of the word for a letter
pub word_has : (P : List ℕ → Type 0) (rules : List Rule) (a : ℕ) (v : List ℕ) → All (λ r. P r.word) rules →
    rule_of rules a ≡ Some v → P v
word_has P [] a v h e = cc
word_has P (r ∷ rules) a v h e =
    (elim (r.letter == a) as (λ b. cond b (Some r.word) (rule_of rules a) ≡ Some v → P v) [
      | true ↦ λ e. let is : r.word ≡ v = cc in subst P is (All-head (λ (r : Rule). P r.word) r rules h)
      | false ↦ λ e. word_has P rules a v (All-tail (λ (r : Rule). P r.word) r rules h) e
    ]) e

-- the rules' words of a marked non-terminal of an unnormed set have a marked one
pub all_have : (rows : Productions) (marks : List Bool) (n : ℕ) → IsUnnormedSet rows marks → is_marked marks n ≡ true →
    AreOrdered (row_of rows n) →
    All (λ r. has_marked marks r.word ≡ true) (row_of rows n)
all_have rows marks n set mark o i d l =
    set n (get_or (row_of rows n) i d).letter (get_or (row_of rows n) i d).word mark
    (present (row_of rows n) (get_or (row_of rows n) i d).letter i d o l refl)

-- what is marked is among the marks
pub marked_within : (marks : List Bool) (n : ℕ) → is_marked marks n ≡ true → n < length marks
marked_within [] n e = cc
marked_within (b ∷ marks) zero e = omega arith
marked_within (b ∷ marks) (suc n) e = let h = marked_within marks n e in omega arith
