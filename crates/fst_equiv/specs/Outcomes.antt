-- How two types compare, without what shows it.
use Rattle.std.specs.Prelude.{◌≡◌, ℕ, List}
use Rattle.fst_types.specs.Tree.{Tree}
use Rattle.fst_types.specs.declared.label.Label.{Label}
use Rattle.fst_types.specs.declared.side.Side.{Side}
use Rattle.fst_equiv.specs.Answers.{Answer, Answers}
use Rattle.fst_equiv.specs.Answers as answer
use Rattle.fst_equiv.specs.Comparison.{differing, comparisons, AreYes, IsDecisive, IsDecisiveQuestion, AreFormed}
use Rattle.fst_equiv.specs.declared.comparing.Same.{Same}
use Rattle.fst_equiv.specs.declared.comparing.Same.TheVariants.{Yes, Shape, Word, Undecided}

-- they are equal; or of the first parts that aren't: their forms differ, this side alone performs the trace, the budget is spent, or the question is too large
pub data Outcome : Type 0 where
  equal : Outcome
  shape : Outcome
  word : List Label → Side → Outcome
  undecided : Outcome
  too_large : Outcome

-- the first that isn't Yes is a question, and this is its answer
abbrev pub IsDecidedBy : Tree → Tree → ℕ → Answer → Type 0
IsDecidedBy t u budget a = (s : Tree) ×
    (r : Tree) × IsDecisiveQuestion budget (comparisons t u) s r × Answers s r budget a

-- how two types compare, within a budget of pairs for each question
abbrev pub HasOutcome : Tree → Tree → ℕ → Outcome → Type 0
HasOutcome t u budget equal = AreYes budget (comparisons t u)
HasOutcome t u budget shape = IsDecisive budget (comparisons t u) differing
HasOutcome t u budget (word trace side) = IsDecidedBy t u budget (answer.no trace side)
HasOutcome t u budget undecided = IsDecidedBy t u budget answer.undecided
HasOutcome t u budget too_large = IsDecidedBy t u budget answer.too_large

-- the outcome that an answer has
abbrev pub outcome_of : Same → Outcome
outcome_of Yes = equal
outcome_of Shape = shape
outcome_of (Word trace side) = word trace.items side
outcome_of (Undecided g pairs) = undecided

-- two well-formed types compare in one way at most
abbrev pub OneOutcome : Type 0
OneOutcome = (t u : Tree) (budget : ℕ) → AreFormed t u →
    (a b : Outcome) → HasOutcome t u budget a → HasOutcome t u budget b → a ≡ b
