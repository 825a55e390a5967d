-- Steps stay among the grammar's non-terminals and letters.
use Rattle.std.proofs.Common.{◌≡◌, ℕ, zero, suc, ◌<◌, List, [], ◌∷◌, ◌++◌, length, Some, None, true, false, refl, arith, cond, ◌==◌}
use Rattle.std.specs.Prelude.{All, option_map, IfSome}
use Rattle.std.proofs.lemmas.List.Elements.{All-head, All-tail, All-append}
use Rattle.fst_words.specs.declared.rules.Rule.{Rule}
use Rattle.fst_words.specs.Words.{Productions, row_of, rule_of, step, InRange, WordBelow}

rule_in_range : (n : ℕ) (rules : List Rule) (a : ℕ) (v : List ℕ) → All (λ r. WordBelow n r.word) rules →
    rule_of rules a ≡ Some v → WordBelow n v
rule_in_range n [] a v h e = cc
rule_in_range n (r ∷ rules) a v h e =
    (elim (r.letter == a) as (λ t. cond t (Some r.word) (rule_of rules a) ≡ Some v → WordBelow n v) [
      | true ↦ λ e. let same : r.word ≡ v = cc in rw (← same) (All-head (λ (q : Rule). WordBelow n q.word) r rules h)
      | false ↦ λ e. rule_in_range n rules a v (All-tail (λ (q : Rule). WordBelow n q.word) r rules h) e
    ]) e

-- a non-terminal with a rule is one of the grammar's
pub rule_within : (rows : Productions) (n a : ℕ) (v : List ℕ) → rule_of (row_of rows n) a ≡ Some v → n < length rows
rule_within [] n a v e = cc
rule_within (r ∷ rows) zero a v e = omega arith
rule_within (r ∷ rows) (suc n) a v e = let h = rule_within rows n a v e in omega arith

pub row_in_range : (rows : Productions) (n a : ℕ) (v : List ℕ) → InRange rows → rule_of (row_of rows n) a ≡ Some v →
    WordBelow (length rows) v
row_in_range rows n a v range e = rule_in_range (length rows) (row_of rows n) a v (range n [] (rule_within rows n a v e)) e

-- a step keeps a word in range
pub step_in_range : (rows : Productions) (w : List ℕ) (a : ℕ) → InRange rows → WordBelow (length rows) w →
    IfSome (step rows w a) (WordBelow (length rows))
step_in_range rows [] a range in_w = tt
step_in_range rows (n ∷ w) a range in_w =
    (elim (rule_of (row_of rows n) a) as (λ o. rule_of (row_of rows n) a ≡ o →
    IfSome (option_map (λ x. x ++ w) o) (WordBelow (length rows))) [
      | None ↦ λ r. tt
      | Some x ↦ λ r. All-append (λ k. k < length rows) x w (row_in_range rows n a x range r)
          (All-tail (λ k. k < length rows) n w in_w)
    ]) refl
