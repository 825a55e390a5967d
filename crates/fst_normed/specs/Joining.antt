-- Joining two words by their heads.
use Rattle.std.specs.Prelude.{◌≡◌, ℕ, zero, suc, ◌==◌, List, [], ◌∷◌, ◌++◌, Option, nat_le, if◌then◌else◌}
use Rattle.fst_norms.specs.Bounds.{norm_of, total}
use Rattle.fst_normed.specs.Candidates.{residual}

-- What is left of two words once their heads are dropped: equal ones at once; otherwise that of greater norm, the right one at a tie, is
-- first replaced by the right word of its candidate with the other one.
abbrev pub dropped : List (Option ℕ) → List (List ℕ) → ℕ → List ℕ → ℕ → List ℕ → List ℕ × List ℕ
dropped norms words n x m y =
    if n == m then (x, y)
    else (if nat_le (norm_of norms n) (norm_of norms m)
    then (x, residual norms words n m ++ y) else (residual norms words m n ++ x, y))

-- two words are joined by their heads: these are dropped until both words are empty
pub data AreJoinedByHeads (norms : List (Option ℕ)) (words : List (List ℕ)) : List ℕ → List ℕ →
    Type 0 where
  empty : {u v : List ℕ} → u ≡ [] → v ≡ [] → AreJoinedByHeads norms words u v
  drops : {u v : List ℕ} (n m : ℕ) (x y : List ℕ) → u ≡ n ∷ x → v ≡ m ∷ y →
      AreJoinedByHeads norms words (dropped norms words n x m y).0 (dropped norms words n x m y).1 →
      AreJoinedByHeads norms words u v

-- the candidate that two heads exchange: none where they are equal
abbrev pub exchanged : List (Option ℕ) → ℕ → ℕ → List (ℕ × ℕ)
exchanged norms n m =
    if n == m then []
    else (if nat_le (norm_of norms n) (norm_of norms m) then (n, m) ∷ [] else (m, n) ∷ [])

-- the candidates that two words exchange when they are joined, one after the other, by so many heads at most
abbrev pub exchanged_within : List (Option ℕ) → List (List ℕ) → ℕ → List ℕ → List ℕ → List (ℕ × ℕ)
exchanged_within norms words zero u v = []
exchanged_within norms words (suc k) [] v = []
exchanged_within norms words (suc k) (n ∷ x) [] = []
exchanged_within norms words (suc k) (n ∷ x) (m ∷ y) =
    exchanged norms n m ++ exchanged_within norms words k (dropped norms words n x m y).0
    (dropped norms words n x m y).1

-- and all that they exchange: no more heads are dropped than the norm of the first word is
unfoldable pub exchanges : List (Option ℕ) → List (List ℕ) → List ℕ → List ℕ → List (ℕ × ℕ)
exchanges norms words u v = exchanged_within norms words (total norms u) u v
