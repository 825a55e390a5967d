-- Non-terminals that are marked, and unnormed sets of them (Almeida, Mordido, Vasconcelos, TACAS 2020).
use Rattle.std.specs.Prelude.{◌≡◌, ℕ, ◌||◌, List, [], ◌∷◌, Some, Bool, true, false, if◌then◌else◌, slice_index_or}
use Rattle.fst_words.specs.Words.{Productions, row_of, rule_of}

-- the non-terminal is marked
abbrev pub is_marked : List Bool → ℕ → Bool
is_marked marks n = slice_index_or marks n false

-- some non-terminal of the word is marked
abbrev pub has_marked : List Bool → List ℕ → Bool
has_marked marks [] = false
has_marked marks (n ∷ w) = is_marked marks n || has_marked marks w

-- every rule of every marked non-terminal contains a marked one
abbrev pub IsUnnormedSet : Productions → List Bool → Type 0
IsUnnormedSet rows marks = (n a : ℕ) (v : List ℕ) → is_marked marks n ≡ true →
    rule_of (row_of rows n) a ≡ Some v → has_marked marks v ≡ true

-- a word in front of another, up to its own first marked non-terminal
abbrev pub cut : List Bool → List ℕ → List ℕ → List ℕ
cut marks [] w = w
cut marks (n ∷ v) w = n ∷ (if is_marked marks n then [] else cut marks v w)
