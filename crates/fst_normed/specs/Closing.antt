-- What looking at each needed candidate finds.
use Rattle.std.specs.Prelude.{◌≡◌, ℕ, List, [], ◌∷◌, ◌++◌, length, take, Option, Some, Bool, All, ◌⊎◌, slice_get, sum_by}
use Rattle.fst_words.specs.declared.rules.Rule.{Rule}
use Rattle.fst_words.specs.Words.{Productions, row_of}
use Rattle.fst_basis.specs.declared.proof.Chain.{Chain}
use Rattle.fst_basis.specs.Basis.{AreJoined, AreJoinedByRules, IsChainBelow, IsPair}
use Rattle.fst_normed.specs.Candidates.{AreCandidates, IsThere, candidate, residual}
use Rattle.fst_normed.specs.Joining.{AreJoinedByHeads, exchanges}
use Rattle.fst_normed.specs.Walks.{Leads, pairs_of}

-- how many rewrites chains have together
abbrev pub rewrites_of : List Chain → ℕ
rewrites_of cs = sum_by (λ c. length c.steps.items) cs

-- a candidate is added behind the others, unless it was there
pub record IsAdded (old new : List (ℕ × ℕ)) (c : ℕ × ℕ) : Type 0 where
  pub behind : (more : List (ℕ × ℕ)) × (new ≡ old ++ more)
  pub only : (d : ℕ × ℕ) → IsThere new d → IsThere old d ⊎ (c ≡ d)

-- candidates are noted behind those that were there, each once, and only such ones
pub record AreNoted (n : ℕ) (norms : List (Option ℕ)) (old new : List (ℕ × ℕ))
    (P : ℕ × ℕ → Type 0) : Type 0 where
  pub are : AreCandidates n norms new
  pub behind : (more : List (ℕ × ℕ)) × (new ≡ old ++ more)
  pub only : (c : ℕ × ℕ) → IsThere new c → IsThere old c ⊎ P c

-- the words of the rules at some place exchange the candidate when they are joined
pub record IsExchangedInTurn (norms : List (Option ℕ)) (words : List (List ℕ))
    (rules others : List Rule) (tail : List ℕ) (c : ℕ × ℕ) : Type 0 where
  pub at : ℕ
  pub rule : Rule
  pub other : Rule
  pub left : slice_get rules at ≡ Some rule
  pub right : slice_get others at ≡ Some other
  pub there : IsThere (exchanges norms words rule.word (other.word ++ tail)) c

-- the words of the rules at some place aren't joined by their heads
pub record AreToldApart (norms : List (Option ℕ)) (words : List (List ℕ))
    (rules others : List Rule) (tail : List ℕ) : Type 0 where
  pub at : ℕ
  pub rule : Rule
  pub other : Rule
  pub left : slice_get rules at ≡ Some rule
  pub right : slice_get others at ≡ Some other
  pub apart : AreJoinedByHeads norms words rule.word (other.word ++ tail) → ⊥

-- these chains lead from the words of the first rules to those of the others with this word behind them, one after the other
abbrev pub LeadInTurn : List (Option ℕ) → List (List ℕ) → List (ℕ × ℕ) → List Rule →
    List Rule → List ℕ → List Chain → Type 0
LeadInTurn norms words candidates [] others tail cs = cs ≡ []
LeadInTurn norms words candidates (r ∷ rules) [] tail cs = ⊥
LeadInTurn norms words candidates (r ∷ rules) (q ∷ others) tail [] = ⊥
LeadInTurn norms words candidates (r ∷ rules) (q ∷ others) tail (c ∷ cs) =
    Leads norms words candidates c.steps.items r.word (q.word ++ tail) ×
    LeadInTurn norms words candidates rules others tail cs

-- the candidate holds: its words perform the same letters, and chains join what they become, whatever is marked
pub record Holds (rows : Productions) (norms : List (Option ℕ)) (words : List (List ℕ))
    (candidates : List (ℕ × ℕ)) (c : ℕ × ℕ) (cs : List Chain) : Type 0 where
  pub below : (n : ℕ) → All (IsChainBelow n) cs
  pub pair : IsPair rows (candidate norms words c)
  pub joined : (marks : List Bool) → AreJoinedByRules rows marks
      (pairs_of norms words candidates) [] (c.0 ∷ residual norms words c.0 c.1) (row_of rows c.1) cs

-- all of the first candidates, so many of them, hold by these chains
pub record AllHold (rows : Productions) (norms : List (Option ℕ)) (words : List (List ℕ))
    (candidates : List (ℕ × ℕ)) (at : ℕ) (cs : List Chain) : Type 0 where
  pub below : (n : ℕ) → All (IsChainBelow n) cs
  pub pairs : All (IsPair rows) (pairs_of norms words (take at candidates))
  pub joined : (marks : List Bool) → AreJoined rows marks (pairs_of norms words candidates)
      (pairs_of norms words (take at candidates)) cs

-- the first chain leads from one word to the other, and all candidates hold by the others
pub record IsClosed (rows : Productions) (norms : List (Option ℕ)) (words : List (List ℕ))
    (u v : List ℕ) (candidates : List (ℕ × ℕ)) (cs : List Chain) : Type 0 where
  pub are : AreCandidates (length rows) norms candidates
  pub first : Chain
  pub others : List Chain
  pub chains : cs ≡ first ∷ others
  pub leads : Leads norms words candidates first.steps.items u v
  pub hold : AllHold rows norms words candidates (length candidates) others
