-- The words of two types, and what the pairs that these words reach, and their cuts, show within a budget.
use Rattle.std.specs.Prelude.{◌≡◌, ◌⊎◌, ℕ, ◌+◌, ◌*◌, ◌≤◌, List, Bool, length}
use Rattle.fst_types.specs.Tree.{Tree}
use Rattle.fst_types.specs.Order.{label_cmp}
use Rattle.fst_types.specs.declared.label.Label.{Label}
use Rattle.fst_types.specs.declared.side.Side.{Side}
use Rattle.fst_lts.specs.Step.{step}
use Rattle.fst_base.specs.Agreement.{Agree}
use Rattle.fst_types.specs.Differences.{IsLeastDistinguishingTrace}
use Rattle.fst_words.specs.Words.{Productions, EachHasRule}
use Rattle.fst_basis.specs.declared.proof.Pair.{Pair}
use Rattle.fst_basis.specs.declared.proof.Chain.{Chain}
use Rattle.fst_basis.specs.Basis.{IsProof}
use Rattle.fst_expand.specs.Good.{AreGoodCuts, IsGood}
use Rattle.fst_shared.specs.declared.handle.SharedPair.{SharedPair}
use Rattle.fst_norms.specs.Norms.{IsNormed}
use Rattle.fst_norms.specs.Pruned.{AreUnnormed, pruned_word}
use Rattle.fst_parts.specs.Labels.{names}
use Rattle.fst_grammar.specs.Parts.{parts_of}
use Rattle.fst_grammar.specs.Translation.{IsTranslation, IsInRange, IsSmall}
use Rattle.fst_breadth.specs.Answer.{IsEqual, IsDifferent, IsBudgetSpent}

-- the grammar of two types within the limits, with its numbers in range, its letters in label order and a rule for each
-- non-terminal but the dead one; their words, and its unnormed non-terminals
pub record IsProblem (s r : Tree) (letters : List Label) (rows : Productions) (u v : List ℕ)
    (marks : List Bool) : Type 0 where
  pub translation : IsTranslation s r letters rows u v
  pub small : IsSmall s r rows
  pub range : IsInRange letters rows u v
  pub ruled : EachHasRule (length (names letters) + length (parts_of s r)) rows
  pub unnormed : AreUnnormed rows marks

-- all non-terminals have norms below 2^63, and the budget is at least the square of their number
pub record IsNormedWithin (rows : Productions) (budget : ℕ) : Type 0 where
  pub normed : IsNormed rows
  pub square : length rows * length rows ≤ budget

-- so it is of the grammar of two types
pub record AreNormedWithin (s r : Tree) (budget : ℕ) : Type 0 where
  pub letters : List Label
  pub rows : Productions
  pub u : List ℕ
  pub v : List ℕ
  pub translation : IsTranslation s r letters rows u v
  pub within : IsNormedWithin rows budget

-- x and y are the pruned words of two types, and these are all the pairs that they reach: at most budget many, of
-- which none shows a difference. The types agree at every depth.
pub record IsShownEqual (s r : Tree) (budget : ℕ) (letters : List Label) (rows : Productions)
    (x y : List ℕ) (pairs : List SharedPair) : Type 0 where
  pub agree : Agree step step s r
  pub u : List ℕ
  pub v : List ℕ
  pub marks : List Bool
  pub problem : IsProblem s r letters rows u v marks
  pub left : x ≡ pruned_word marks u
  pub right : y ≡ pruned_word marks v
  pub all : IsEqual rows marks x y budget pairs

-- x and y are the pruned words of two types, and these pairs are a basis, which with these chains shows that the words perform the
-- same traces: they are the cuts that the words lead to, which are good at the budget, or the grammar is normed within the budget. The
-- types agree at every depth.
pub record IsProvedEqual (s r : Tree) (budget : ℕ) (letters : List Label) (rows : Productions)
    (x y : List ℕ) (basis : List Pair) (chains : List Chain) : Type 0 where
  pub agree : Agree step step s r
  pub u : List ℕ
  pub v : List ℕ
  pub marks : List Bool
  pub problem : IsProblem s r letters rows u v marks
  pub left : x ≡ pruned_word marks u
  pub right : y ≡ pruned_word marks v
  pub proof : IsProof (length letters) rows marks x y basis chains
  pub good : AreGoodCuts rows marks x y budget basis ⊎ IsNormedWithin rows budget

-- the least trace that one side alone performs: one of the first budget pairs that two types reach shows it, or the grammar is normed
-- within the budget
pub record IsShownDifferent (s r : Tree) (budget : ℕ) (trace : List Label)
    (side : Side) : Type 0 where
  pub least : IsLeastDistinguishingTrace step step label_cmp s r trace side
  pub letters : List Label
  pub rows : Productions
  pub u : List ℕ
  pub v : List ℕ
  pub marks : List Bool
  pub problem : IsProblem s r letters rows u v marks
  pub found : IsDifferent rows marks letters (pruned_word marks u)
      (pruned_word marks v) budget trace side ⊎ IsNormedWithin rows budget

-- these are the first budget pairs that two types reach: there are more, these show no difference, the cuts that the types' words lead
-- to aren't good at the budget, and the grammar isn't normed within it
pub record IsShownSpent (s r : Tree) (budget : ℕ) (letters : List Label) (rows : Productions)
    (pairs : List SharedPair) : Type 0 where
  pub u : List ℕ
  pub v : List ℕ
  pub marks : List Bool
  pub problem : IsProblem s r letters rows u v marks
  pub first : IsBudgetSpent rows marks (pruned_word marks u) (pruned_word marks v) budget pairs
  pub no_basis : IsGood rows marks (pruned_word marks u) (pruned_word marks v) budget → ⊥
  pub not_normed : IsNormedWithin rows budget → ⊥
