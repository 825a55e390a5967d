-- Texts that are put together from words.
use Rattle.std.specs.Prelude.{◌≡◌, ℕ, ◌==◌, ◌-◌, ◌≤◌, Bool, true, false, not, ◌&&◌, ◌||◌, nat_lt, List, [], ◌∷◌, ◌++◌, length, map, take, drop, All, Option, Some, None, pos, negsuc}
use Rattle.std.specs.List.{list_all}
use Rattle.std.specs.Str.{byte, chars, IsUtf8}
use Rattle.std.specs.Char.{is_ascii_alphanumeric}
use Rattle.std.specs.Fmt.{decimal}
use Rattle.fst_lexer.specs.declared.token.Token.{Token}
use Rattle.fst_lexer.specs.declared.token.TokenKind.{TokenKind}
use Rattle.fst_lexer.specs.declared.token.TokenKind.TheVariants as kind
use Rattle.fst_base.specs.Limits.{longest_name, greatest_number}
use Rattle.fst_base.specs.Choice.{choose}
use Rattle.fst_lexer.specs.Classes.{is_blank, is_feed, is_dash, is_quote, is_backslash, is_upper, is_digit, is_plain, is_escape, is_short, is_long, is_reserved, escaped_character, starts_name, continues_name}
use Rattle.fst_lexer.specs.Lexes.{Lexes}

-- a word: what it is, and its bytes
pub record Word : Type 0 where
  pub kind : TokenKind
  pub text : List ℕ

-- the characters are a name, reserved or not
abbrev pub is_name : List ℕ → Bool
is_name [] = false
is_name (c ∷ cs) = starts_name c && list_all continues_name cs

-- the first of the characters is one of `A` to `Z`
abbrev pub is_capital : List ℕ → Bool
is_capital [] = false
is_capital (c ∷ cs) = is_upper c

-- the characters are a sign
abbrev pub is_sign : List ℕ → Bool
is_sign (a ∷ []) = is_short a
is_sign (a ∷ b ∷ []) = is_long a b
is_sign _ = false

-- what the characters stand for, where they are one in quotes
abbrev pub quoted_character : List ℕ → Option ℕ
quoted_character (a ∷ c ∷ b ∷ []) = choose (is_quote a && (is_plain c && is_quote b)) (Some c) None
quoted_character (a ∷ c ∷ e ∷ b ∷ []) =
    choose (is_quote a && (is_backslash c && (is_escape e && is_quote b)))
    (Some (escaped_character e)) None
quoted_character _ = None

-- the bytes are a name that isn't reserved
pub record IsFreeName (text : List ℕ) : Type 0 where
  pub utf8 : IsUtf8 text
  pub name : is_name (chars text) ≡ true
  pub free : is_reserved (chars text) ≡ false
  pub short : length text ≤ longest_name

-- the bytes are a word of this kind
abbrev pub IsWordOf : TokenKind → List ℕ → Type 0
IsWordOf kind.Lower text = IsFreeName text × (is_capital (chars text) ≡ false)
IsWordOf kind.Upper text = IsFreeName text × (is_capital (chars text) ≡ true)
IsWordOf kind.Reserved text = is_reserved text ≡ true
IsWordOf kind.Sign text = is_sign text ≡ true
IsWordOf (kind.Number (pos n)) text = (n ≤ greatest_number) × (text ≡ decimal n)
IsWordOf (kind.Number (negsuc n)) text = ⊥
IsWordOf (kind.Character c) text = IsUtf8 text × (quoted_character (chars text) ≡ Some c)
IsWordOf kind.Finish text = ⊥

-- the bytes of the word are a word of its kind
abbrev pub IsWord : Word → Type 0
IsWord w = IsWordOf w.kind w.text

-- the bytes are none, or begin with an ASCII one that no name goes on with
abbrev pub ends_name : List ℕ → Bool
ends_name [] = true
ends_name (b ∷ bs) = nat_lt b 128 && not (is_quote b
    || (is_ascii_alphanumeric b || (b == byte "_")))

-- the bytes are none, or begin with one that is no digit
abbrev pub ends_number : List ℕ → Bool
ends_number [] = true
ends_number (b ∷ bs) = not (is_digit b)

-- the first of the bytes makes the sign no longer, nor the beginning of a comment
abbrev pub ends_sign : List ℕ → List ℕ → Bool
ends_sign (a ∷ []) (b ∷ bs) = not (is_long a b) && not (is_dash a && is_dash b)
ends_sign _ _ = true

-- a word of this kind ends where these bytes begin
abbrev pub ends_before : TokenKind → List ℕ → List ℕ → Bool
ends_before kind.Lower text rest = ends_name rest
ends_before kind.Upper text rest = ends_name rest
ends_before kind.Reserved text rest = ends_name rest
ends_before kind.Sign text rest = ends_sign text rest
ends_before (kind.Number n) text rest = ends_number rest
ends_before (kind.Character c) text rest = true
ends_before kind.Finish text rest = true

-- the word doesn't run on into the bytes behind it
abbrev pub StandsApart : Word → List ℕ → Type 0
StandsApart w rest = ends_before w.kind w.text rest ≡ true

-- a word, and whether it begins a line
pub record LinedWord : Type 0 where
  pub first : Bool
  pub word : Word

-- the bytes are these words in order, each apart from what is behind it, with blanks between them; they begin a line or not
pub data IsSpelled : Bool → List ℕ → List LinedWord → Type 0 where
  nothing : (first : Bool) → IsSpelled first [] []
  blank : (first : Bool) (c : ℕ) (rest : List ℕ) (ws : List LinedWord) → is_blank c ≡ true →
      IsSpelled (is_feed c) rest ws → IsSpelled first (c ∷ rest) ws
  word : (first : Bool) (w : Word) (all rest : List ℕ) (ws : List LinedWord) → IsWord w →
      StandsApart w rest → all ≡ w.text ++ rest → IsSpelled false rest ws →
      IsSpelled first all (record { first = first; word = w } ∷ ws)

-- a token of a text as a word: its kind, and the bytes at its place
abbrev pub word_at : List ℕ → Token → Word
word_at text t = record { kind = t.kind; text = take t.len (drop t.at text) }

-- the same, and whether it begins a line
abbrev pub lined_word_at : List ℕ → Token → LinedWord
lined_word_at text t = record { first = t.first_column; word = word_at text t }

-- what stands for the end of a text
abbrev pub end_word : Word
end_word = record { kind = kind.Finish; text = [] }

-- the tokens are these words in order, each at its place in the text, and then the end
pub record HasWords (text : List ℕ) (tokens : List Token) (ws : List LinedWord) : Type 0 where
  pub last : Bool
  pub words : map (lined_word_at text) tokens ≡ ws ++ record { first = last; word = end_word } ∷ []

-- the text has just these words as its tokens
pub record LexesToWords (text : List ℕ) (ws : List LinedWord) : Type 0 where
  pub tokens : List Token
  pub lexes : Lexes text tokens
  pub has : HasWords text tokens ws

-- a text that is put together from words has just these words as its tokens, and each begins a line as its token does
abbrev pub SpellingLaw : Type 0
SpellingLaw = (text : List ℕ) (ws : List LinedWord) → IsSpelled true text ws → LexesToWords text ws

-- a token of this kind may have these bytes: they are a word, or it is a number that isn't too wide
abbrev pub IsTokenOf : TokenKind → List ℕ → Type 0
IsTokenOf (kind.Number (pos n)) text = n ≤ greatest_number
IsTokenOf k text = IsWordOf k text

-- a token with the bytes at its place
abbrev pub IsTokenWord : Word → Type 0
IsTokenWord w = IsTokenOf w.kind w.text

-- each token of a text but the last one is a word, or a number that isn't too wide
abbrev pub TokenWords : Type 0
TokenWords = (text : List ℕ) (tokens : List Token) → Lexes text tokens → All
    (λ t. IsTokenWord (word_at text t)) (take (length tokens - 1) tokens)
