-- The largest unnormed set, and words cut behind the first of them (Almeida, Mordido, Vasconcelos, TACAS 2020).
use Rattle.std.specs.Prelude.{◌≡◌, ℕ, ◌<◌, List, [], length, Bool, true}
use Rattle.fst_words.specs.Marks.{cut, is_marked, IsUnnormedSet}
use Rattle.fst_words.specs.Words.{Productions}

-- the marks are those of the largest unnormed set, one for each non-terminal
pub record AreUnnormed (rows : Productions) (marks : List Bool) : Type 0 where
  pub count : length marks ≡ length rows
  pub set : IsUnnormedSet rows marks
  pub largest : (other : List Bool) (n : ℕ) → IsUnnormedSet rows other → is_marked other n ≡ true →
      n < length rows → is_marked marks n ≡ true

-- the word up to its first marked non-terminal
abbrev pub pruned_word : List Bool → List ℕ → List ℕ
pruned_word marks w = cut marks w []

-- nothing stands behind the word's first marked non-terminal
abbrev pub IsPruned : List Bool → List ℕ → Type 0
IsPruned marks w = pruned_word marks w ≡ w
