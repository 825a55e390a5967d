-- A token as the grammar sees it.
use Rattle.std.specs.Prelude.{◌≡◌, ℕ, zero, suc, ◌-◌, Bool, true, false, List, [], ◌∷◌, Option, Some, None, length, take, drop, map, pos}
use Rattle.std.specs.Str.{bytes_eq}
use Rattle.fst_lexer.specs.declared.token.Token.{Token}
use Rattle.fst_lexer.specs.declared.token.TokenKind.{TokenKind}
use Rattle.fst_lexer.specs.declared.token.TokenKind.TheVariants as kind

-- its kind, the byte at which it begins, and its text
pub record Lexeme : Type 0 where
  pub kind : TokenKind
  pub at : ℕ
  pub text : List ℕ

-- a token with the text that stands at its place
abbrev pub lexeme : List ℕ → Token → Lexeme
lexeme text k = record { kind = k.kind; at = k.at; text = take k.len (drop k.at text) }

-- the tokens of a text without the one at its end
abbrev pub lexemes : List ℕ → List Token → List Lexeme
lexemes text tokens = map (lexeme text) (take (length tokens - 1) tokens)

-- where the first token begins, and where none is left the text ends
abbrev pub place : ℕ → List Lexeme → ℕ
place end [] = end
place end (k ∷ ts) = k.at

-- where a phrase begins; one without tokens begins nowhere
abbrev pub start : List Lexeme → ℕ
start [] = 0
start (k ∷ ts) = k.at

-- whether a token of this kind and text is this reserved word or sign
abbrev pub spells_by : TokenKind → List ℕ → List ℕ → Bool
spells_by kind.Reserved word text = bytes_eq text word
spells_by kind.Sign word text = bytes_eq text word
spells_by _ word text = false

-- whether a token is this reserved word or this sign
abbrev pub spells : List ℕ → Lexeme → Bool
spells word k = spells_by k.kind word k.text

-- the token is this reserved word or this sign
abbrev pub Is : List ℕ → Lexeme → Type 0
Is word k = spells word k ≡ true

-- a lower name
abbrev pub IsLower : Lexeme → Type 0
IsLower k = k.kind ≡ kind.Lower

-- an upper name
abbrev pub IsUpper : Lexeme → Type 0
IsUpper k = k.kind ≡ kind.Upper

-- a number of value 1
abbrev pub IsOne : Lexeme → Type 0
IsOne k = k.kind ≡ kind.Number (pos 1)

-- a token, by its kind, where it is a lower name
abbrev pub lower_by : TokenKind → Lexeme → Option Lexeme
lower_by kind.Lower k = Some k
lower_by _ k = None

-- a lower name
abbrev pub lower_of : Lexeme → Option Lexeme
lower_of k = lower_by k.kind k

-- a token, by its kind, where it is an upper name
abbrev pub upper_by : TokenKind → Lexeme → Option Lexeme
upper_by kind.Upper k = Some k
upper_by _ k = None

-- an upper name
abbrev pub upper_of : Lexeme → Option Lexeme
upper_of k = upper_by k.kind k

-- whether a token of this kind is a number of value 1
abbrev pub one_by : TokenKind → Bool
one_by (kind.Number (pos (suc zero))) = true
one_by _ = false

-- whether this is a number of value 1
abbrev pub is_one : Lexeme → Bool
is_one k = one_by k.kind
