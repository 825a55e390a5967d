-- Norms: the shortest ways from a non-terminal to the empty word (Hirshfeld, Jerrum, Moller, 1996).
use Rattle.std.specs.Prelude.{◌≡◌, ℕ, ◌<◌, ◌≤◌, List, [], ◌∷◌, length, Option, Some, None, min}
use Rattle.fst_base.specs.Limits.{greatest_norm}
use Rattle.fst_words.specs.Words.{Productions, after}

-- the trace of letters takes the word to the empty word
abbrev pub Empties : Productions → List ℕ → List ℕ → Type 0
Empties rows w s = after rows w s ≡ Some []

-- k is the length of a shortest trace that empties the non-terminal, or 2^63 where that is longer
pub record IsNorm (rows : Productions) (n k : ℕ) : Type 0 where
  pub reached : (s : List ℕ) × Empties rows (n ∷ []) s × (k ≡ min (length s) greatest_norm)
  pub least : (s : List ℕ) → Empties rows (n ∷ []) s → k ≤ length s

-- some trace empties the non-terminal
abbrev pub HasNorm : Productions → ℕ → Type 0
HasNorm rows n = (s : List ℕ) × Empties rows (n ∷ []) s

-- no trace empties the non-terminal
abbrev pub HasNoNorm : Productions → ℕ → Type 0
HasNoNorm rows n = (s : List ℕ) → Empties rows (n ∷ []) s → ⊥

-- the norm of a non-terminal, or none exactly where it has none
abbrev pub IsNormOrNone : Productions → ℕ → Option ℕ → Type 0
IsNormOrNone rows n None = HasNoNorm rows n
IsNormOrNone rows n (Some k) = IsNorm rows n k

-- each non-terminal has a norm below 2^63
abbrev pub IsNormed : Productions → Type 0
IsNormed rows = (n : ℕ) → n < length rows → (k : ℕ) × IsNorm rows n k × (k < greatest_norm)
