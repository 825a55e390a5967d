-- Candidates: the pairs that a basis of a normed grammar may have (Hirshfeld, Jerrum, Moller, 1996).
use Rattle.std.specs.Prelude.{◌≡◌, ◌≢◌, ℕ, ◌<◌, ◌≤◌, List, [], ◌∷◌, Option, Some, slice_get}
use Rattle.std.specs.List.{AllPairs}
use Rattle.fst_words.specs.Words.{Productions}
use Rattle.fst_basis.specs.declared.proof.Pair.{Pair}
use Rattle.fst_norms.specs.Bounds.{norm_of}
use Rattle.fst_norms.specs.Lowering.{lowered}
use Rattle.fst_words.specs.Differences.{Differ}

-- what Y becomes by as many steps that lower its norm as the norm of X is
abbrev pub residual : List (Option ℕ) → List (List ℕ) → ℕ → ℕ → List ℕ
residual norms words x y = lowered words (norm_of norms x) (y ∷ [])

-- two different non-terminals below n, the norm of the first not above that of the second
pub record IsCandidate (n : ℕ) (norms : List (Option ℕ)) (c : ℕ × ℕ) : Type 0 where
  pub first : c.0 < n
  pub second : c.1 < n
  pub other : c.0 ≢ c.1
  pub norm : norm_of norms c.0 ≤ norm_of norms c.1

-- the candidate of X and Y is the pair of Y and X B, where B is what Y becomes so
abbrev pub candidate : List (Option ℕ) → List (List ℕ) → ℕ × ℕ → Pair
candidate norms words c = record { left = c.1 ∷ []; right = c.0 ∷ residual norms words c.0 c.1 }

-- the candidate of these non-terminals is one of them
abbrev pub IsThere : List (ℕ × ℕ) → ℕ × ℕ → Type 0
IsThere candidates c = (at : ℕ) × (slice_get candidates at ≡ Some c)

-- these are candidates of a grammar with n non-terminals, each of them once
pub record AreCandidates (n : ℕ) (norms : List (Option ℕ))
    (candidates : List (ℕ × ℕ)) : Type 0 where
  pub each : (c : ℕ × ℕ) → IsThere candidates c → IsCandidate n norms c
  pub once : AllPairs (λ c d. c ≢ d) candidates

-- the words of a candidate perform different traces
abbrev pub CandidateDiffers : Productions → List (Option ℕ) → List (List ℕ) → ℕ × ℕ → Type 0
CandidateDiffers rows norms words c =
    Differ rows (c.1 ∷ []) (c.0 ∷ residual norms words c.0 c.1)
