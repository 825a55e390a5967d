-- What is found of two pruned words.
use Rattle.std.specs.Prelude.{◌⊎◌, ℕ, List, Bool, length}
use Rattle.fst_types.specs.Order.{label_cmp}
use Rattle.fst_types.specs.Differences.{IsLeastDistinguishingTrace}
use Rattle.fst_types.specs.declared.label.Label.{Label}
use Rattle.fst_types.specs.declared.side.Side.{Side}
use Rattle.fst_base.specs.Agreement.{HaveSameTraces}
use Rattle.fst_words.specs.Words.{Productions, label_step, step}
use Rattle.fst_basis.specs.declared.proof.Proof.{Proof}
use Rattle.fst_basis.specs.Basis.{IsProof}
use Rattle.fst_expand.specs.Good.{AreGoodCuts, IsGood}
use Rattle.fst_breadth.specs.Answer.{IsAnswer, IfEqual, IfDiffer, IfSpent}
use Rattle.fst_breadth.specs.declared.answers.Found.{Found}
use Rattle.fst_equiv.specs.declared.finding.Finding.{Finding}
use Rattle.fst_equiv.specs.declared.finding.Finding.TheVariants.{Proved, Least, Searched}
use Rattle.fst_equiv.specs.Problem.{IsNormedWithin}

-- the basis and its chains show that two words perform the same traces; it has good cuts, or the grammar is normed within the budget
pub record IsSameByBasis (rows : Productions) (marks : List Bool) (letters : List Label)
    (x y : List ℕ) (budget : ℕ) (p : Proof) : Type 0 where
  pub proof : IsProof (length letters) rows marks x y p.basis.items p.chains.items
  pub same : HaveSameTraces (step rows) (step rows) x y
  pub good : AreGoodCuts rows marks x y budget p.basis.items ⊎ IsNormedWithin rows budget

-- of two words of a grammar that is normed within the budget, this one alone performs the trace, and no lesser one is so
pub record IsLeastOfNormed (rows : Productions) (letters : List Label) (x y : List ℕ) (budget : ℕ)
    (trace : List Label) (side : Side) : Type 0 where
  pub least : IsLeastDistinguishingTrace (label_step letters rows) (label_step letters rows)
      label_cmp x y trace side
  pub normed : IsNormedWithin rows budget

-- the search answers so; the cuts aren't good, and where it is spent, the grammar isn't normed within the budget
pub record IsSearched (rows : Productions) (marks : List Bool) (letters : List Label)
    (x y : List ℕ) (budget : ℕ) (found : Found) : Type 0 where
  pub exact : IsAnswer rows marks letters x y budget found
  pub same : IfEqual found (HaveSameTraces (label_step letters rows) (label_step letters rows) x y)
  pub differ : IfDiffer found (IsLeastDistinguishingTrace (label_step letters rows)
      (label_step letters rows) label_cmp x y)
  pub no_basis : IsGood rows marks x y budget → ⊥
  pub not_normed : IfSpent found (λ pairs. IsNormedWithin rows budget → ⊥)

-- what is found of two words is right
abbrev pub IsFinding : Productions → List Bool → List Label → List ℕ → List ℕ → ℕ → Finding →
    Type 0
IsFinding rows marks letters x y budget (Proved p) = IsSameByBasis rows marks letters x y budget p
IsFinding rows marks letters x y budget (Least trace side) =
    IsLeastOfNormed rows letters x y budget trace.items side
IsFinding rows marks letters x y budget (Searched found) =
    IsSearched rows marks letters x y budget found
