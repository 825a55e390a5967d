-- The tokens of a text.
use Rattle.std.specs.Prelude.{◌≡◌, ℕ, ◌+◌, ◌-◌, ◌*◌, ◌<◌, ◌⊎◌, Bool, true, false, nat_le, List, [], ◌∷◌, ◌++◌, length, map, sum_by, Option, Some, None, Result, Ok, Err, pos}
use Rattle.std.specs.Char.{len_utf8}
use Rattle.std.specs.Str.{byte}
use Rattle.fst_lexer.specs.declared.pieces.Placed.{Placed}
use Rattle.fst_lexer.specs.declared.pieces.Piece.{Piece}
use Rattle.fst_lexer.specs.declared.pieces.Piece.TheVariants.{Blank, Comment, Name, Digits, Quoted, Sign}
use Rattle.fst_lexer.specs.declared.token.Token.{Token}
use Rattle.fst_lexer.specs.declared.token.TokenKind.{TokenKind}
use Rattle.fst_lexer.specs.declared.token.TokenKind.TheVariants as kind
use Rattle.fst_lexer.specs.declared.token.LexFault.{LexFault}
use Rattle.fst_lexer.specs.declared.token.LexFault.TheVariants as fault
use Rattle.fst_base.specs.Limits.{longest_name, greatest_number}
use Rattle.fst_lexer.specs.Classes.{is_backslash, is_feed, is_reserved, is_upper, escaped_character}
use Rattle.fst_lexer.specs.Next.{IsNext, NoPiece}
use Rattle.fst_base.specs.Choice.{choose}

-- the byte at which the first character begins
abbrev pub place : List Placed → ℕ
place [] = 0
place (c ∷ cs) = c.at

-- how many bytes the characters have
abbrev pub byte_count : List Placed → ℕ
byte_count word = sum_by (λ p. len_utf8 p.ch) word

-- the characters alone
abbrev pub letters : List Placed → List ℕ
letters word = map (λ p. p.ch) word

-- the decimal number that digits spell, behind one that was spelled before them
abbrev pub value_from : ℕ → List Placed → ℕ
value_from n [] = n
value_from n (c ∷ cs) = value_from (n * 10 + (c.ch - byte "0")) cs

-- the number that digits spell, where it isn't too wide
unfoldable pub number_of : List Placed → Option ℕ
number_of word = choose (nat_le (value_from 0 word) greatest_number) (Some (value_from 0 word)) None

-- the character that stands between quotes, or that an escape there stands for; of no character token 0
abbrev pub character_of : List Placed → ℕ
character_of (a ∷ c ∷ e ∷ cs) = choose (is_backslash c.ch) (escaped_character e.ch) c.ch
character_of _ = 0

-- the first character is one of `A` to `Z`
abbrev pub begins_upper : List Placed → Bool
begins_upper [] = false
begins_upper (c ∷ cs) = is_upper c.ch

-- which kind of token a name is
abbrev pub name_kind : List Placed → TokenKind
name_kind word = choose (is_reserved (letters word)) kind.Reserved
    (choose (begins_upper word) kind.Upper kind.Lower)

-- the last character is a line feed, so that a line begins behind these
abbrev pub ends_line : List Placed → Bool
ends_line [] = false
ends_line (c ∷ []) = is_feed c.ch
ends_line (c ∷ d ∷ cs) = ends_line (d ∷ cs)

-- a token of this kind with this text, which begins a line or not
abbrev pub token_with : TokenKind → List Placed → Bool → Option Token
token_with k word first = Some (record
    { kind = k; at = place word; len = byte_count word; first_column = first })

-- the token of digits, or that they spell too wide a number
abbrev pub number_token : Option ℕ → List Placed → Bool → Result (Option Token) LexFault
number_token (Some n) word first = Ok (token_with (kind.Number (pos n)) word first)
number_token None word first = Err (fault.WideNumber (place word))

-- the token of a piece, where it is one, or what is wrong with it
unfoldable pub token_of : Piece → List Placed → Bool → Result (Option Token) LexFault
token_of Blank word first = Ok None
token_of Comment word first = Ok None
token_of Name word first = choose (nat_le (byte_count word) longest_name)
    (Ok (token_with (name_kind word) word first)) (Err (fault.LongName (place word)))
token_of Digits word first = number_token (number_of word) word first
token_of Quoted word first = Ok (token_with (kind.Character (character_of word)) word first)
token_of Sign word first = Ok (token_with kind.Sign word first)

-- none or one token as a list
abbrev pub list_of : Option Token → List Token
list_of None = []
list_of (Some t) = t ∷ []

-- these are the tokens of a text up to a rest, and whether the rest begins a line
pub data LexesTo (text : List Placed) : List Token → Bool → List Placed → Type 0 where
  start : LexesTo text [] true text
  piece : (ts us : List Token) (first last : Bool) (here word rest : List Placed) (p : Piece)
      (o : Option Token) →
      LexesTo text ts first here → IsNext here p word rest → token_of p word first ≡ Ok o →
      us ≡ ts ++ list_of o → last ≡ ends_line word →
      LexesTo text us last rest

-- the last token
abbrev pub finish : ℕ → Bool → Token
finish end first = record { kind = kind.Finish; at = end; len = 0; first_column = first }

-- these are the tokens of a text that ends at this byte
pub record AreTokens (text : List Placed) (end : ℕ) (tokens : List Token) : Type 0 where
  pub before : List Token
  pub first : Bool
  pub lexed : LexesTo text before first []
  pub whole : tokens ≡ before ++ finish end first ∷ []

-- the text doesn't end here, no piece begins here, and that is the fault
pub record BeginsNoPiece (here : List Placed) (e : LexFault) : Type 0 where
  pub some : 0 < length here
  pub none : NoPiece here
  pub is : e ≡ fault.BadChar (place here)

-- the next piece is no token, and that is the fault
pub record BeginsNoToken (here : List Placed) (first : Bool) (e : LexFault) : Type 0 where
  pub piece : Piece
  pub word : List Placed
  pub rest : List Placed
  pub next : IsNext here piece word rest
  pub bad : token_of piece word first ≡ Err e

-- what is wrong where the tokens so far end
abbrev pub IsFaultAt : List Placed → Bool → LexFault → Type 0
IsFaultAt here first e = BeginsNoPiece here e ⊎ BeginsNoToken here first e

-- behind these tokens stands this fault
pub record FaultBehind (text : List Placed) (e : LexFault) : Type 0 where
  pub before : List Token
  pub first : Bool
  pub here : List Placed
  pub lexed : LexesTo text before first here
  pub fault : IsFaultAt here first e

-- this is the first fault of a text
abbrev pub IsFault : List Placed → LexFault → Type 0
IsFault text fault.Memory = Unit {0}
IsFault text (fault.NotUtf8 at) = ⊥
IsFault text e = FaultBehind text e
