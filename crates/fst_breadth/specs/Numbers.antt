-- What is known between two rules of a pair.
use Rattle.std.specs.Prelude.{◌≡◌, ℕ, ◌<◌, ◌≤◌, List, drop, Some, None, slice_get, Bool}
use Rattle.fst_words.specs.declared.rules.Rule.{Rule}
use Rattle.fst_words.specs.Words.{Productions, rule_of, first_row}
use Rattle.fst_shared.specs.Shared.{word_of}
use Rattle.fst_breadth.specs.Reached.{ReachedPair}
use Rattle.fst_breadth.specs.Following.{KeepsState}

-- a letter below a leads from the two words of a pair by rules whose words have these numbers
pub record IsNoted (rows : Productions) (words : List (List ℕ)) (e : ReachedPair) (a : ℕ)
    (p : ℕ × ℕ) : Type 0 where
  pub letter : ℕ
  pub below : letter < a
  pub left : rule_of (first_row rows e.left) letter ≡ Some (word_of words p.0)
  pub right : rule_of (first_row rows e.right) letter ≡ Some (word_of words p.1)

-- each pair of numbers in the list is that of the rules of a letter below a
abbrev pub AreNoted : Productions → List (List ℕ) → ReachedPair → ℕ → List (ℕ × ℕ) → Type 0
AreNoted rows words e a noted = (j : ℕ) (p : ℕ × ℕ) → slice_get noted j ≡ Some p →
    IsNoted rows words e a p

-- the pair at a place was followed by the letters below a, whose rules' words are noted, and from there on the rules
-- that are left are those of the row
pub record IsFollowed (rows : Productions) (words : List (List ℕ)) (marks : List Bool)
    (old found : List ReachedPair) (noted : List (ℕ × ℕ)) (at : ℕ) (row : List Rule)
    (k : ℕ) : Type 0 where
  pub a : ℕ
  pub state : KeepsState rows marks old found at at a
  pub known : (e : ReachedPair) → slice_get old at ≡ Some e → AreNoted rows words e a noted
  pub rest : (b : ℕ) → a ≤ b → rule_of row b ≡ rule_of (drop k row) b
  pub from : (b : ℕ) → b < a → rule_of (drop k row) b ≡ None
