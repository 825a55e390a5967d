-- What holds of the words of a normed grammar. In each law the norms and the words that lower them are those of the grammar.
use Rattle.std.specs.Prelude.{ℕ, ◌≤◌, ◌⊎◌, List, [], ◌∷◌, ◌++◌, length, Option}
use Rattle.fst_words.specs.Words.{Productions, WordBelow}
use Rattle.fst_norms.specs.Bounds.{norm_of}
use Rattle.fst_normed.specs.Candidates.{residual}
use Rattle.fst_normed.specs.Joining.{AreJoinedByHeads}
use Rattle.fst_normed.specs.Needs.{IsNeeded}
use Rattle.fst_normed.specs.Normed.{Alike, IsNormedGrammar}
use Rattle.fst_words.specs.Differences.{Differ}

-- what stands behind both words may be cut off: if W V and W' V are alike, so are W and W'
abbrev pub CutLaw : Type 0
CutLaw =
    (rows : Productions) (norms : List (Option ℕ)) (words : List (List ℕ)) →
    IsNormedGrammar rows norms words → (w x v : List ℕ) →
    WordBelow (length rows) w → WordBelow (length rows) x → WordBelow (length rows) v →
    Alike rows (w ++ v) (x ++ v) → Alike rows w x

-- if X U and Y V are alike, and the norm of X isn't above that of Y, then Y and X B are alike, and so are U and B V
abbrev pub HeadLaw : Type 0
HeadLaw =
    (rows : Productions) (norms : List (Option ℕ)) (words : List (List ℕ)) →
    IsNormedGrammar rows norms words → (x y : ℕ) (u v : List ℕ) →
    WordBelow (length rows) (x ∷ u) → WordBelow (length rows) (y ∷ v) →
    norm_of norms x ≤ norm_of norms y → Alike rows (x ∷ u) (y ∷ v) →
    Alike rows (y ∷ []) (x ∷ residual norms words x y) ×
    Alike rows u (residual norms words x y ++ v)

-- any two words are joined by their heads, or they differ
abbrev pub JoiningLaw : Type 0
JoiningLaw =
    (rows : Productions) (norms : List (Option ℕ)) (words : List (List ℕ)) →
    IsNormedGrammar rows norms words →
    (u v : List ℕ) → WordBelow (length rows) u → WordBelow (length rows) v →
    AreJoinedByHeads norms words u v ⊎ Differ rows u v

-- the words of each candidate that the question of two alike words needs are alike
abbrev pub NeedLaw : Type 0
NeedLaw =
    (rows : Productions) (norms : List (Option ℕ)) (words : List (List ℕ)) →
    IsNormedGrammar rows norms words →
    (u v : List ℕ) → WordBelow (length rows) u → WordBelow (length rows) v → Alike rows u v →
    (c : ℕ × ℕ) → IsNeeded rows norms words u v c →
    Alike rows (c.1 ∷ []) (c.0 ∷ residual norms words c.0 c.1)
