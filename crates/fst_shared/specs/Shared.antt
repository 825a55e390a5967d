-- The words that a table of nodes stands for.
use Rattle.std.specs.Prelude.{◌≡◌, ℕ, suc, ◌<◌, ◌≤◌, List, [], ◌∷◌, ◌++◌, length, Some, slice_get, slice_index_or, ⊤}

-- the word with a number: none where there is no such number
abbrev pub word_of : List (List ℕ) → ℕ → List ℕ
word_of words n = slice_index_or words n []

-- the words of nodes behind earlier words: each node is a non-terminal and the number of the word behind it
abbrev pub words_from : List (List ℕ) → List (ℕ × ℕ) → List (List ℕ)
words_from words [] = words
words_from words (p ∷ nodes) = words_from (words ++ (p.0 ∷ word_of words p.1) ∷ []) nodes

-- the empty word has number 0, and then each node adds one
abbrev pub words_of : List (ℕ × ℕ) → List (List ℕ)
words_of nodes = words_from ([] ∷ []) nodes

-- a later table has the words of the earlier one by the same numbers
pub record Keeps (old new : List (List ℕ)) : Type 0 where
  pub longer : length old ≤ length new
  pub kept : (k : ℕ) → k < length old → word_of new k ≡ word_of old k

-- no word has two numbers
abbrev pub IsEachOnce : List (List ℕ) → Type 0
IsEachOnce words = (i j : ℕ) → i < length words → j < length words →
    word_of words i ≡ word_of words j → i ≡ j

-- each node is the word behind it, with its first non-terminal in front, and no word has two numbers
pub record IsTable (nodes : List (ℕ × ℕ)) (words : List (List ℕ)) : Type 0 where
  pub count : length words ≡ suc (length nodes)
  pub empty : word_of words 0 ≡ []
  pub before : (k : ℕ) (p : ℕ × ℕ) → slice_get nodes k ≡ Some p → p.1 ≤ k
  pub linked : (k : ℕ) (p : ℕ × ℕ) → slice_get nodes k ≡ Some p →
      word_of words (suc k) ≡ p.0 ∷ word_of words p.1
  pub once : IsEachOnce words

-- these pairs of numbers are below n
abbrev pub AreKeys : ℕ → List (ℕ × ℕ) → Type 0
AreKeys n [] = ⊤
AreKeys n (k ∷ keys) = (k.0 < n) × (k.1 < n) × AreKeys n keys
