-- The answer to the question whether two types are equivalent, within a budget of pairs.
use Rattle.std.specs.Prelude.{◌≡◌, ◌⊎◌, ℕ, List}
use Rattle.fst_types.specs.Tree.{Tree}
use Rattle.fst_types.specs.declared.kind.Kind.{Kind}
use Rattle.fst_types.specs.declared.label.Label.{Label}
use Rattle.fst_types.specs.declared.side.Side.{Side}
use Rattle.fst_kinds.specs.WellFormed.{IsSession}
use Rattle.fst_words.specs.Words.{Productions}
use Rattle.fst_shared.specs.declared.handle.SharedPair.{SharedPair}
use Rattle.fst_grammar.specs.Translation.{IsTooLarge}
use Rattle.fst_basis.specs.declared.proof.Pair.{Pair}
use Rattle.fst_basis.specs.declared.proof.Chain.{Chain}
use Rattle.fst_equiv.specs.Problem.{IsShownEqual, IsProvedEqual, IsShownDifferent, IsShownSpent}

-- agreement at every depth, the least trace that one side alone performs with this side, that the budget is spent,
-- or that a type or the grammar is too large
pub data Answer : Type 0 where
  yes : Answer
  no : List Label → Side → Answer
  undecided : Answer
  too_large : Answer

-- a grammar, two words and a list of pairs show that two types agree
pub record AreShownEqual (s r : Tree) (budget : ℕ) : Type 0 where
  pub letters : List Label
  pub rows : Productions
  pub x : List ℕ
  pub y : List ℕ
  pub pairs : List SharedPair
  pub shown : IsShownEqual s r budget letters rows x y pairs

-- a grammar, two words and a basis with chains show that two types agree
pub record AreProvedEqual (s r : Tree) (budget : ℕ) : Type 0 where
  pub letters : List Label
  pub rows : Productions
  pub x : List ℕ
  pub y : List ℕ
  pub basis : List Pair
  pub chains : List Chain
  pub shown : IsProvedEqual s r budget letters rows x y basis chains

-- all pairs that two types reach show that they agree, or a basis for their words does
abbrev pub AreFoundEqual : Tree → Tree → ℕ → Type 0
AreFoundEqual s r budget = AreShownEqual s r budget ⊎ AreProvedEqual s r budget

-- a grammar and a list of pairs show that the budget is spent
pub record AreShownSpent (s r : Tree) (budget : ℕ) : Type 0 where
  pub letters : List Label
  pub rows : Productions
  pub pairs : List SharedPair
  pub shown : IsShownSpent s r budget letters rows pairs

-- the answer to the question of two types
abbrev pub Answers : Tree → Tree → ℕ → Answer → Type 0
Answers s r budget yes = AreFoundEqual s r budget
Answers s r budget (no trace side) = IsShownDifferent s r budget trace side
Answers s r budget undecided = AreShownSpent s r budget
Answers s r budget too_large = IsTooLarge s r

-- a question of two session types has at most one answer
abbrev pub OneAnswer : Type 0
OneAnswer =
    (vars others : List Kind) (s r : Tree) (budget : ℕ) → IsSession vars s → IsSession others r →
    (a b : Answer) → Answers s r budget a → Answers s r budget b → a ≡ b
