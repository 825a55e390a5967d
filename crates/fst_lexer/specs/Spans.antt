-- Where tokens stand in the bytes.
use Rattle.std.specs.Prelude.{◌≡◌, ℕ, ◌+◌, ◌-◌, ◌≤◌, ◌⊎◌, ◌↔◌, IsTrue, List, length, All, Some, slice_get}
use Rattle.std.specs.List.{AllPairs}
use Rattle.std.specs.Str.{byte, IsCharBoundary}
use Rattle.fst_lexer.specs.declared.token.Token.{Token}

-- each token begins and ends between two characters of the bytes, and none begins before an earlier one ends; and but for
-- the one at the end there are no more of them than bytes
pub record HaveSpans (bytes : List ℕ) (tokens : List Token) : Type 0 where
  pub start : All (λ t. IsCharBoundary bytes t.at) tokens
  pub stop : All (λ t. IsCharBoundary bytes (t.at + t.len)) tokens
  pub in_order : AllPairs (λ t u. t.at + t.len ≤ u.at) tokens
  pub few : length tokens ≤ length bytes + 1

-- a line begins at this byte: it is the first one, or a line feed stands directly before it
abbrev pub BeginsLine : List ℕ → ℕ → Type 0
BeginsLine bytes at = (at ≡ 0) ⊎ (slice_get bytes (at - 1) ≡ Some (byte "\n"))

-- each token, the last one too, tells by `first_column` whether a line begins where it stands
abbrev pub TellLines : List ℕ → List Token → Type 0
TellLines bytes tokens = All (λ t. IsTrue t.first_column ↔ BeginsLine bytes t.at) tokens
