-- All that is said of a translation.
use Rattle.std.specs.Prelude.{ℕ, ◌+◌, List, length}
use Rattle.fst_types.specs.Tree.{Tree}
use Rattle.fst_types.specs.declared.label.Label.{Label}
use Rattle.fst_words.specs.Words.{Productions, EachHasRule}
use Rattle.fst_parts.specs.Labels.{names}
use Rattle.fst_grammar.specs.Parts.{parts_of}
use Rattle.fst_grammar.specs.Translation.{IsTranslation, IsInRange}
use Rattle.fst_grammar.specs.Standing.{StandsFor}

-- the grammar and words are the translation, the words stand for the types, all numbers are in range, and each
-- non-terminal but the dead one has a rule
pub record IsDone (s r : Tree) (letters : List Label) (rows : Productions)
    (u v : List ℕ) : Type 0 where
  pub translation : IsTranslation s r letters rows u v
  pub left : StandsFor letters rows u s
  pub right : StandsFor letters rows v r
  pub range : IsInRange letters rows u v
  pub ruled : EachHasRule (length (names letters) + length (parts_of s r)) rows
