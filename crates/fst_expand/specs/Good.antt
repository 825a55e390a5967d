-- The cuts that two words lead to, and when they give a basis.
use Rattle.std.specs.Prelude.{◌≡◌, ℕ, ◌+◌, ◌≤◌, List, [], ◌∷◌, length, Option, Some, slice_get, Bool, sum_by}
use Rattle.fst_words.specs.declared.rules.Rule.{Rule}
use Rattle.fst_words.specs.Words.{Productions, step, first_row}
use Rattle.fst_norms.specs.Pruned.{pruned_word}
use Rattle.fst_basis.specs.declared.proof.Pair.{Pair}
use Rattle.fst_basis.specs.Basis.{IsPair}
use Rattle.fst_norms.specs.Lowering.{AreLowering, AreNorms}
use Rattle.fst_expand.specs.Cuts.{HasCuts}

-- the pair is in the list
abbrev pub IsIn : Pair → List Pair → Type 0
IsIn b pairs = (at : ℕ) × (slice_get pairs at ≡ Some b)

-- no pair is twice in the list
abbrev pub AreDistinct : List Pair → Type 0
AreDistinct pairs = (i j : ℕ) (b : Pair) → slice_get pairs i ≡ Some b → slice_get pairs j ≡ Some b →
    i ≡ j

-- this holds of each pair in the list
abbrev pub Each : (Pair → Type 0) → List Pair → Type 0
Each P pairs = (at : ℕ) (b : Pair) → slice_get pairs at ≡ Some b → P b

-- two words, once they are pruned, have these cuts, and so many heads are dropped
abbrev pub HavePrunedCuts : List Bool → List (Option ℕ) → List (List ℕ) → List ℕ → List ℕ →
    List Pair → ℕ → Type 0
HavePrunedCuts marks norms words x y cuts heads =
    HasCuts norms words (pruned_word marks x) (pruned_word marks y) cuts heads

-- what the words of a pair become by a letter, pruned, has these cuts
pub record HaveCutsAfter (rows : Productions) (marks : List Bool) (norms : List (Option ℕ))
    (words : List (List ℕ)) (b : Pair) (a : ℕ) (cuts : List Pair) (heads : ℕ) : Type 0 where
  pub x : List ℕ
  pub y : List ℕ
  pub left : step rows b.left a ≡ Some x
  pub right : step rows b.right a ≡ Some y
  pub cut : HavePrunedCuts marks norms words x y cuts heads

-- the cuts that two words lead to: the least set of pairs that has the cuts of these words, and with each of its pairs the cuts of what its
-- words become by a letter
pub data IsReachedCut (rows : Productions) (marks : List Bool) (norms : List (Option ℕ))
    (words : List (List ℕ)) (u v : List ℕ) : Pair → Type 0 where
  first : {b : Pair} {cuts : List Pair} {heads : ℕ} →
      HavePrunedCuts marks norms words u v cuts heads → IsIn b cuts →
      IsReachedCut rows marks norms words u v b
  next : {b c : Pair} {a heads : ℕ} {cuts : List Pair} → IsReachedCut rows marks norms words u v c →
      HaveCutsAfter rows marks norms words c a cuts heads → IsIn b cuts →
      IsReachedCut rows marks norms words u v b

-- by the letters of these rules so many heads are dropped
abbrev pub DropHeads : Productions → List Bool → List (Option ℕ) → List (List ℕ) → Pair →
    List Rule → ℕ → Type 0
DropHeads rows marks norms words b [] n = n ≡ 0
DropHeads rows marks norms words b (r ∷ rules) n =
    (cuts : List Pair) × (heads rest : ℕ) ×
    HaveCutsAfter rows marks norms words b r.letter cuts heads ×
    DropHeads rows marks norms words b rules rest × (n ≡ heads + rest)

-- The cuts that two words lead to are finitely many, no word in them is empty, the two words of each perform the same letters, and they and
-- all heads that are dropped, for the two words and for each cut and letter once, are together at most the budget.
pub record IsGood (rows : Productions) (marks : List Bool) (u v : List ℕ)
    (budget : ℕ) : Type 0 where
  pub norms : List (Option ℕ)
  pub words : List (List ℕ)
  pub are_norms : AreNorms rows norms
  pub lowering : AreLowering rows norms words
  pub pairs : List Pair
  pub all : (b : Pair) → IsReachedCut rows marks norms words u v b → IsIn b pairs
  pub only : (b : Pair) → IsIn b pairs → IsReachedCut rows marks norms words u v b
  pub once : AreDistinct pairs
  pub alike : Each (IsPair rows) pairs
  pub cuts : List Pair
  pub heads : ℕ
  pub first : HavePrunedCuts marks norms words u v cuts heads
  pub heads_of : Pair → ℕ
  pub next : Each (λ b. DropHeads rows marks norms words b (first_row rows b.left) (heads_of b))
      pairs
  pub within : length pairs + heads + sum_by heads_of pairs ≤ budget

-- these pairs are the cuts that two words lead to, and those are good at the budget
abbrev pub AreGoodCuts : Productions → List Bool → List ℕ → List ℕ → ℕ → List Pair → Type 0
AreGoodCuts rows marks u v budget pairs = (g : IsGood rows marks u v budget) × (pairs ≡ g.pairs)
