-- What is known of the non-terminals of a grammar.
use Rattle.std.specs.Prelude.{ℕ, List, length, Option, Bool, All}
use Rattle.fst_words.specs.Words.{InRange, Productions, WordBelow}
use Rattle.fst_norms.specs.Pruned.{AreUnnormed}
use Rattle.fst_norms.specs.Lowering.{AreLowering, AreNorms}

-- the marks are those of the unnormed non-terminals, these are the norms of all, and the words are what they become by the least letter
-- that lowers their norms
pub record AreMeasures (rows : Productions) (marks : List Bool) (norms : List (Option ℕ))
    (words : List (List ℕ)) : Type 0 where
  pub range : InRange rows
  pub unnormed : AreUnnormed rows marks
  pub are_norms : AreNorms rows norms
  pub lowering : AreLowering rows norms words
  pub below : All (WordBelow (length rows)) words
