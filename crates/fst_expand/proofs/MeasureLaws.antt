-- What follows of the measures of a grammar.
use Rattle.std.proofs.Common.{◌≡◌, ℕ, List, length, sym, ◌∙◌, subst, Option, Bool, All}
use Rattle.fst_words.specs.Words.{Productions, WordBelow}
use Rattle.fst_expand.specs.Measures.{AreMeasures}
use Rattle.fst_expand.specs.Trail.{AreUnmarked}
use Rattle.fst_expand.proofs.NormLaws.{are_unmarked}

module _ (rows : Productions) (marks : List Bool) (norms : List (Option ℕ)) (words : List (List ℕ))
    (m : AreMeasures rows marks norms words) where
  pub marks_long : length marks ≡ length words
  marks_long = m.unnormed.count ∙ sym m.lowering.count

  pub norms_long : length norms ≡ length words
  norms_long = m.are_norms.count ∙ sym m.lowering.count

  pub words_below : All (WordBelow (length words)) words
  words_below = subst (λ (n : ℕ). All (WordBelow n) words) (sym m.lowering.count) m.below

  pub unmarked : AreUnmarked marks norms words
  unmarked = are_unmarked rows marks norms words m.unnormed m.are_norms m.lowering
