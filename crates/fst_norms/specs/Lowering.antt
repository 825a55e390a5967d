-- Steps that lower norms.
use Rattle.std.specs.Prelude.{◌≡◌, ℕ, zero, suc, ◌-◌, ◌&&◌, ◌==◌, ◌<◌, List, [], ◌∷◌, ◌++◌, length, Option, Some, None, slice_index_or, Bool, if◌then◌else◌}
use Rattle.fst_words.specs.declared.rules.Rule.{Rule}
use Rattle.fst_words.specs.Words.{Productions, row_of}
use Rattle.fst_norms.specs.Norms.{IsNormOrNone}
use Rattle.fst_norms.specs.Bounds.{all_bounded, bound_at, norm_of, total}

-- the norm of each non-terminal, where it has one
pub record AreNorms (rows : Productions) (norms : List (Option ℕ)) : Type 0 where
  pub count : length norms ≡ length rows
  pub each : (n : ℕ) → IsNormOrNone rows n (bound_at norms n)

-- each non-terminal of the word has a norm, and k is their sum
abbrev pub has_norm : List (Option ℕ) → ℕ → List ℕ → Bool
has_norm norms k w = all_bounded norms w && (total norms w == k)

-- the word of the first rule whose word has this norm
abbrev pub word_of_norm : List (Option ℕ) → ℕ → List Rule → List ℕ
word_of_norm norms k [] = []
word_of_norm norms k (r ∷ rules) = if has_norm norms k r.word then r.word else word_of_norm norms k
    rules

-- what a non-terminal with this norm becomes by the least letter that lowers it
abbrev pub lowering : List (Option ℕ) → List Rule → Option ℕ → List ℕ
lowering norms rules None = []
lowering norms rules (Some k) = word_of_norm norms (k - 1) rules

-- the word of a non-terminal, of words by number
abbrev pub lowered_to : List (List ℕ) → ℕ → List ℕ
lowered_to words n = slice_index_or words n []

-- the words are what the non-terminals become by the least letter that lowers their norms
pub record AreLowering (rows : Productions) (norms : List (Option ℕ))
    (words : List (List ℕ)) : Type 0 where
  pub count : length words ≡ length rows
  pub each : (n : ℕ) → lowered_to words n ≡ lowering norms (row_of rows n) (bound_at norms n)

-- a word after such a step of its head
abbrev pub lower : List (List ℕ) → List ℕ → List ℕ
lower words [] = []
lower words (n ∷ w) = lowered_to words n ++ w

-- a word after so many steps
abbrev pub lowered : List (List ℕ) → ℕ → List ℕ → List ℕ
lowered words zero w = w
lowered words (suc k) w = lowered words k (lower words w)

-- what lowers a non-terminal's norm lowers it by one
abbrev pub LowerByOne : List (Option ℕ) → List (List ℕ) → Type 0
LowerByOne norms words = (n : ℕ) → n < length words →
    norm_of norms n ≡ suc (total norms (lowered_to words n))
