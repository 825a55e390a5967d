-- Ways between words that aren't pruned.
use Rattle.std.specs.Prelude.{◌≡◌, ℕ, ◌<◌, ◌≤◌, ◌+◌, List, [], ◌∷◌, length, Option, Some, None, Bool}
use Rattle.fst_words.specs.Words.{WordBelow}
use Rattle.fst_norms.specs.Pruned.{IsPruned, pruned_word}
use Rattle.fst_shared.specs.Shared.{word_of}
use Rattle.fst_basis.specs.declared.proof.Pair.{Pair}
use Rattle.fst_basis.specs.declared.proof.Chain.{Chain}
use Rattle.fst_basis.specs.declared.proof.Rewrite.{Rewrite}
use Rattle.fst_basis.specs.declared.proof.Rewrite.TheVariants.{Cut, Grow}
use Rattle.fst_basis.specs.Basis.{IsChainBelow, IsPairBelow}
use Rattle.fst_basis.specs.Rewrites.{chained, rewritten}
use Rattle.fst_expand.specs.Good.{Each, HavePrunedCuts, IsIn}
use Rattle.fst_expand.specs.Table.{Adds, Grows}
use Rattle.fst_expand.specs.Trail.{IsCrowded, IsPrunedPair}

-- what is cut off the long word behind a place makes it the short one, and the short one grows by it
pub record IsCutOff (marks : List Bool) (short long : List ℕ) (at : ℕ)
    (tail : List ℕ) : Type 0 where
  pub cuts : (basis : List Pair) → rewritten marks basis (Cut at tail) long ≡ Some short
  pub grows : (basis : List Pair) → rewritten marks basis (Grow at tail) short ≡ Some long

-- what is cut off, if anything
abbrev pub AreCutOff : List Bool → List ℕ → List ℕ → Option (ℕ × List ℕ) → Type 0
AreCutOff marks short long None = short ≡ long
AreCutOff marks short long (Some c) = IsCutOff marks short long c.0 c.1

-- the rewrite that cuts it off
abbrev pub cutting : Option (ℕ × List ℕ) → List Rewrite
cutting None = []
cutting (Some c) = Cut c.0 c.1 ∷ []

-- and the one by which it grows again
abbrev pub growing : Option (ℕ × List ℕ) → List Rewrite
growing None = []
growing (Some c) = Grow c.0 c.1 ∷ []

-- all pairs are pruned words of the grammar
pub record AreFit (marks : List Bool) (n : ℕ) (pairs : List Pair) : Type 0 where
  pub below : Each (IsPairBelow n) pairs
  pub pruned : Each (IsPrunedPair marks) pairs

-- a word of the grammar, in front of one of the table that is pruned
pub record IsFront (n : ℕ) (marks : List Bool) (words : List (List ℕ)) (w : List ℕ)
    (tail : ℕ) : Type 0 where
  pub there : tail < length words
  pub word : WordBelow n w
  pub behind : WordBelow n (word_of words tail)
  pub pruned : IsPruned marks (word_of words tail)

-- a non-terminal of the grammar, and the number of a word of the table, pruned, behind it
pub record IsParts (n : ℕ) (marks : List Bool) (words : List (List ℕ)) (p : ℕ × ℕ) : Type 0 where
  pub head : p.0 < n
  pub there : p.1 < length words
  pub behind : WordBelow n (word_of words p.1)
  pub pruned : IsPruned marks (word_of words p.1)

-- the cuts of two words, once these are pruned, are among the pairs, and so many heads are dropped
pub record HaveMet (marks : List Bool) (norms : List (Option ℕ)) (words : List (List ℕ))
    (x y : List ℕ) (pairs : List Pair) (heads : ℕ) : Type 0 where
  pub cuts : List Pair
  pub cut : HavePrunedCuts marks norms words x y cuts heads
  pub there : Each (λ b. IsIn b pairs) cuts

-- these cuts were added, and nothing else
pub record Meet (marks : List Bool) (norms : List (Option ℕ)) (words : List (List ℕ)) (x y : List ℕ)
    (old new : List Pair) (heads : ℕ) : Type 0 where
  pub met : HaveMet marks norms words x y new heads
  pub grows : Grows old new
  pub adds : Adds met.cuts old new
  pub fit : AreFit marks (length words) new

-- the pairs, and the heads of all cuts of both words, pruned, are more than there is room for
abbrev pub HaveNoRoom : List Bool → List (Option ℕ) → List (List ℕ) → List ℕ → List ℕ → List Pair →
    List Pair → ℕ → Type 0
HaveNoRoom marks norms words x y old new room =
    IsCrowded norms words (pruned_word marks x) (pruned_word marks y) old new room

-- there is room for the pairs and the heads of two words, whose cuts are all there
abbrev pub HaveRoom : List Bool → List (Option ℕ) → List (List ℕ) → List ℕ → List ℕ → List Pair →
    ℕ → Type 0
HaveRoom marks norms words x y pairs room =
    (heads : ℕ) × HaveMet marks norms words x y pairs heads × (length pairs + heads ≤ room)

-- the chain leads from x to y, and its words are the grammar's
pub record IsWay (n : ℕ) (marks : List Bool) (pairs : List Pair) (x y : List ℕ)
    (c : Chain) : Type 0 where
  pub leads : chained marks pairs c.steps.items x ≡ Some y
  pub below : IsChainBelow n c
