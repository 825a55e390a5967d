-- Bases of all pairs that two words reach.
use Rattle.std.specs.Prelude.{◌≡◌, ℕ, ◌+◌, ◌<◌, ◌^◌, ◌⊎◌, List, ◌++◌, All, length, map, take, Some, slice_index_or, Bool, true}
use Rattle.fst_words.specs.declared.rules.Rule.{Rule}
use Rattle.fst_words.specs.Marks.{is_marked}
use Rattle.fst_words.specs.Words.{Productions, WordBelow, step}
use Rattle.fst_norms.specs.Pruned.{pruned_word}
use Rattle.fst_shared.specs.Shared.{word_of}
use Rattle.fst_shared.specs.declared.handle.SharedPair.{SharedPair}
use Rattle.fst_basis.specs.declared.proof.Pair.{Pair}
use Rattle.fst_basis.specs.declared.proof.Rewrite.{Rewrite}
use Rattle.fst_basis.specs.Basis.{IsPair, IsPairBelow, IsRewriteBelow}
use Rattle.fst_basis.specs.Rewrites.{chained}
use Rattle.fst_expand.specs.Good.{AreDistinct, Each, IsIn}

-- two words as a pair
abbrev pub pair_of : List ℕ → List ℕ → Pair
pair_of u v = record { left = u; right = v }

-- the pairs, written out
abbrev pub basis_of : List SharedPair → List Pair
basis_of pairs = map (λ p. pair_of p.left p.right) pairs

-- the numbers are those that two words have in a table
pub record AreNumbersOf (words : List (List ℕ)) (u v : List ℕ) (k : ℕ × ℕ) : Type 0 where
  pub left : word_of words k.0 ≡ u
  pub right : word_of words k.1 ≡ v
  pub left_within : k.0 < length words
  pub right_within : k.1 < length words

-- two words are the same, or a pair of the basis
abbrev pub AreSameOrPair : List Pair → List ℕ → List ℕ → Type 0
AreSameOrPair basis u v = (u ≡ v) ⊎ IsIn (pair_of u v) basis

-- two words are so once they are pruned
abbrev pub AreLinked : List Bool → List Pair → List ℕ → List ℕ → Type 0
AreLinked marks basis u v = AreSameOrPair basis (pruned_word marks u) (pruned_word marks v)

-- what the two words of a pair become by a letter is linked
abbrev pub HasLinkedFollowers : Productions → List Bool → List Pair → Pair → Type 0
HasLinkedFollowers rows marks basis b = (a : ℕ) (u v : List ℕ) →
    step rows b.left a ≡ Some u → step rows b.right a ≡ Some v → AreLinked marks basis u v

-- what w becomes by the rule's letter is linked to the word of the rule with t behind it
pub record IsLinkedByRule (rows : Productions) (marks : List Bool) (basis : List Pair)
    (t w : List ℕ) (r : Rule) : Type 0 where
  pub next : List ℕ
  pub after : step rows w r.letter ≡ Some next
  pub linked : AreLinked marks basis (r.word ++ t) next

-- the pairs are fewer than 2^32 and each there once, their words are the grammar's, the two words of each perform the same letters, and
-- what these become by a letter is linked
pub record IsClosed (rows : Productions) (marks : List Bool) (basis : List Pair) : Type 0 where
  pub few : length basis < 2 ^ 32
  pub once : AreDistinct basis
  pub below : Each (IsPairBelow (length rows)) basis
  pub pairs : Each (IsPair rows) basis
  pub linked : Each (HasLinkedFollowers rows marks basis) basis

-- the word's first marked non-terminal stands at this place
pub record IsCutAt (marks : List Bool) (word : List ℕ) (at : ℕ) : Type 0 where
  pub within : at < length word
  pub marked : is_marked marks (slice_index_or word at 0) ≡ true
  pub pruned : pruned_word marks word ≡ take (at + 1) word

-- where the old chain leads to v, the new one leads to w
abbrev pub LeadOn : List Bool → List Pair → List Rewrite → List Rewrite → List ℕ → List ℕ → Type 0
LeadOn marks basis old new v w = (u : List ℕ) → chained marks basis old u ≡ Some v →
    chained marks basis new u ≡ Some w

-- where the numbers of the word and of the old chain's words are below a number, those of the new one's are
abbrev pub StayBelow : List ℕ → List Rewrite → List Rewrite → Type 0
StayBelow word old new = (n : ℕ) → WordBelow n word → All (IsRewriteBelow n) old →
    All (IsRewriteBelow n) new
