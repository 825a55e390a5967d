-- What other crates use of the rules of simple grammars.
use Rattle.std.proofs.Common.{◌≡◌, ℕ, ◌<◌, List, length, get_or, Some}
use Rattle.fst_types.specs.declared.label.Label.{Label}
use Rattle.fst_base.specs.Agreement.{HaveSameTraces}
use Rattle.fst_words.specs.declared.rules.Rule.{Rule}
use Rattle.fst_words.specs.Ordered.{AreOrdered}
use Rattle.fst_words.specs.Words.{Productions, row_of, rule_of, step, label_step, InRange, WordBelow}
use Rattle.fst_words.proofs.RuleLaws as rule_laws
use Rattle.fst_words.proofs.RangeLaws as range_laws
use Rattle.fst_words.proofs.LabelLaws as label_laws

-- a non-terminal with a rule is one of the grammar's
pub rule_within : (rows : Productions) (n a : ℕ) (v : List ℕ) → rule_of (row_of rows n) a ≡ Some v → n < length rows
rule_within = range_laws.rule_within

-- the word of a rule stays among the grammar's non-terminals
pub row_in_range : (rows : Productions) (n a : ℕ) (v : List ℕ) → InRange rows → rule_of (row_of rows n) a ≡ Some v →
    WordBelow (length rows) v
row_in_range = range_laws.row_in_range

-- among rules in order, the rule at a place is the one that its letter finds
pub present : (rules : List Rule) (a i : ℕ) (d : Rule) → AreOrdered rules → i < length rules → (get_or rules i d).letter ≡ a →
    rule_of rules a ≡ Some (get_or rules i d).word
present = rule_laws.present

-- words that perform the same traces of letters perform the same traces of labels
pub same_by_labels : (letters : List Label) (rows : Productions) (u v : List ℕ) → HaveSameTraces (step rows) (step rows) u v →
    HaveSameTraces (label_step letters rows) (label_step letters rows) u v
same_by_labels = label_laws.same_by_labels
