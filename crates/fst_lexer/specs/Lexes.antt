-- The tokens of bytes, or the first fault in them.
use Rattle.std.specs.Prelude.{◌≡◌, ◌≢◌, ℕ, List, length}
use Rattle.std.specs.Str.{chars, IsUtf8, IsValidUpTo}
use Rattle.fst_lexer.specs.declared.token.Token.{Token}
use Rattle.fst_lexer.specs.declared.token.LexFault.{LexFault}
use Rattle.fst_lexer.specs.declared.token.LexFault.TheVariants as fault
use Rattle.fst_lexer.specs.Places.{place_all}
use Rattle.fst_lexer.specs.Tokens.{AreTokens, IsFault}

-- the bytes are a text with these tokens
pub record Lexes (bytes : List ℕ) (tokens : List Token) : Type 0 where
  pub text : IsUtf8 bytes
  pub tokens_are : AreTokens (place_all 0 (chars bytes)) (length bytes) tokens

-- the bytes are no text, from here on, or a text with this first fault
abbrev pub Refuses : List ℕ → LexFault → Type 0
Refuses bytes fault.Memory = Unit {0}
Refuses bytes (fault.NotUtf8 at) = ¬ (IsUtf8 bytes) × IsValidUpTo bytes at
Refuses bytes e = IsUtf8 bytes × IsFault (place_all 0 (chars bytes)) e

-- bytes have one list of tokens, or one fault other than Memory, and not both
pub record OneLexing : Type 0 where
  pub one_list : (bytes : List ℕ) (tokens others : List Token) → Lexes bytes tokens →
      Lexes bytes others → tokens ≡ others
  pub no_fault : (bytes : List ℕ) (tokens : List Token) (e : LexFault) → Lexes bytes tokens →
      Refuses bytes e → e ≡ fault.Memory
  pub one_fault : (bytes : List ℕ) (e f : LexFault) → e ≢ fault.Memory → f ≢ fault.Memory →
      Refuses bytes e → Refuses bytes f → e ≡ f
