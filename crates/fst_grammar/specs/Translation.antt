-- The translation of two types to one grammar and two words (Almeida, Mordido, Vasconcelos, TACAS 2020).
use Rattle.std.specs.Prelude.{◌≡◌, ℕ, ◌+◌, ◌<◌, ◌≤◌, ◌⊎◌, List, [], length}
use Rattle.std.specs.List.{sum_by}
use Rattle.fst_base.specs.Limits.{most_nodes, most_letters}
use Rattle.fst_types.specs.Tree.{Tree}
use Rattle.fst_types.specs.Size.{nodes}
use Rattle.fst_types.specs.declared.kind.Kind.{Kind}
use Rattle.fst_types.specs.declared.label.Label.{Label}
use Rattle.fst_kinds.specs.WellFormed.{IsSession}
use Rattle.fst_words.specs.declared.rules.Rule.{Rule}
use Rattle.fst_base.specs.Order.{IsRising}
use Rattle.fst_words.specs.Words.{Productions, row_of, WordBelow, InRange, LettersBelow}
use Rattle.fst_parts.specs.Place.{top_of}
use Rattle.fst_grammar.specs.Word.{Numbers, word}
use Rattle.fst_parts.specs.Labels.{AreLetters, names}
use Rattle.fst_grammar.specs.Parts.{parts_of, numbers_by, dead_count}
use Rattle.fst_grammar.specs.Rules.{HasRows}
use Rattle.fst_types.specs.Order.{label_cmp}

-- the numbers of the non-terminals of two types
abbrev pub numbers_of : List Label → Tree → Tree → Numbers
numbers_of letters s r = numbers_by letters (parts_of s r)

-- the grammar of two types: each of their non-terminals and no other, with its rules, of which the dead one has none
pub record IsGrammar (s r : Tree) (letters : List Label) (rows : Productions) : Type 0 where
  pub labels : AreLetters s r letters
  pub count : length rows ≡ length (names letters) + length (parts_of s r) + dead_count letters
  pub dead : row_of rows (numbers_of letters s r).dead ≡ []
  pub left : HasRows (numbers_of letters s r) letters rows (top_of s) s
  pub right : HasRows (numbers_of letters s r) letters rows (top_of r) r

-- the grammar of two types, and the word of each
pub record IsTranslation (s r : Tree) (letters : List Label) (rows : Productions)
    (u v : List ℕ) : Type 0 where
  pub grammar : IsGrammar s r letters rows
  pub left : u ≡ word (numbers_of letters s r) (top_of s) s
  pub right : v ≡ word (numbers_of letters s r) (top_of r) r

-- all non-terminals and letters are those of the grammar, and the letters stand in label order
pub record IsInRange (letters : List Label) (rows : Productions) (u v : List ℕ) : Type 0 where
  pub rules : InRange rows
  pub left : WordBelow (length rows) u
  pub right : WordBelow (length rows) v
  pub below : LettersBelow (length letters) rows
  pub rising : IsRising label_cmp letters

-- how many letters stand on the right sides of rules
abbrev pub right_side : List Rule → ℕ
right_side rules = sum_by (λ (r : Rule). length r.word) rules

-- how many letters stand on the right sides of all rules
abbrev pub right_sides : Productions → ℕ
right_sides rows = sum_by right_side rows

-- both types and the right sides are within the limits
pub record IsSmall (s r : Tree) (rows : Productions) : Type 0 where
  pub left : nodes s ≤ most_nodes
  pub right : nodes r ≤ most_nodes
  pub letters : right_sides rows ≤ most_letters

-- the grammar of two types has too many letters on the right sides
pub record HasTooManyLetters (s r : Tree) : Type 0 where
  pub letters : List Label
  pub rows : Productions
  pub grammar : IsGrammar s r letters rows
  pub over : most_letters < right_sides rows

-- a type has too many nodes, or their grammar too many letters on the right sides
abbrev pub IsTooLarge : Tree → Tree → Type 0
IsTooLarge s r = ((most_nodes < nodes s) ⊎ (most_nodes < nodes r)) ⊎ HasTooManyLetters s r

-- two session types within the limit on nodes have at most one grammar
abbrev pub OneGrammar : Type 0
OneGrammar =
    (vars others : List Kind) (s r : Tree) → IsSession vars s → IsSession others r →
    nodes s ≤ most_nodes → nodes r ≤ most_nodes →
    (letters more : List Label) (rows rules : Productions) → IsGrammar s r letters rows →
    IsGrammar s r more rules → (letters ≡ more) × (rows ≡ rules)
