-- Classes of characters, and the signs and words that are made of them.
use Rattle.std.specs.Prelude.{ℕ, ◌==◌, Bool, not, ◌||◌, List, [], ◌∷◌, codes, if◌then◌else◌}
use Rattle.std.specs.List.{list_any}
use Rattle.std.specs.Str.{byte, bytes_eq}
use Rattle.std.specs.Char.{is_ascii_digit, is_ascii_uppercase}
use Rattle.unicode_ident.specs.Ident.{is_xid_start, is_xid_continue}

-- the character is one of these
abbrev pub is_among : List ℕ → ℕ → Bool
is_among cs c = list_any (λ d. d == c) cs

-- space, tab, carriage return and line feed
abbrev pub is_blank : ℕ → Bool
is_blank c = is_among (codes " \t\r\n") c

-- a line feed
abbrev pub is_feed : ℕ → Bool
is_feed c = c == byte "\n"

-- half of what begins a comment
abbrev pub is_dash : ℕ → Bool
is_dash c = c == byte "-"

-- what stands at both ends of a character token
abbrev pub is_quote : ℕ → Bool
is_quote c = c == byte "'"

-- what begins an escape between quotes
abbrev pub is_backslash : ℕ → Bool
is_backslash c = c == byte "\\"

-- `A` to `Z`
abbrev pub is_upper : ℕ → Bool
is_upper c = is_ascii_uppercase c

-- `0` to `9`
abbrev pub is_digit : ℕ → Bool
is_digit c = is_ascii_digit c

-- a name begins with this character
abbrev pub starts_name : ℕ → Bool
starts_name c = (c == byte "_") || is_xid_start c

-- a name goes on with this character
abbrev pub continues_name : ℕ → Bool
continues_name c = is_quote c || is_xid_continue c

-- a character that stands for itself between quotes
abbrev pub is_plain : ℕ → Bool
is_plain c = not (is_among (codes "'\\\t\n\r") c)

-- a character that may stand behind a backslash between quotes
abbrev pub is_escape : ℕ → Bool
is_escape c = is_among (codes "nt\\'") c

-- what such a character stands for
abbrev pub escaped_character : ℕ → ℕ
escaped_character c = if c == byte "n" then byte "\n" else (if c == byte "t" then byte "\t" else c)

-- the signs of one character
abbrev pub short_signs : List ℕ
short_signs = codes "!?+-*&{}():,;.=@~\\<>|"

-- the signs of two characters
abbrev pub long_signs : List (List ℕ)
long_signs = codes "->" ∷ codes "==" ∷ codes "/=" ∷ codes "<=" ∷ codes ">=" ∷ codes "&&" ∷ codes
    "||" ∷ []

-- the character is a sign
abbrev pub is_short : ℕ → Bool
is_short c = is_among short_signs c

-- the two characters are a sign
abbrev pub is_long : ℕ → ℕ → Bool
is_long a b = list_any (bytes_eq (a ∷ b ∷ [])) long_signs

-- the reserved words that begin with a small letter
abbrev pub lower_words : List (List ℕ)
lower_words =
    codes "data" ∷ codes "type" ∷ codes "forall" ∷ codes "rec" ∷ codes "new" ∷ codes "send" ∷ codes
    "receive" ∷ codes "select" ∷ codes "match" ∷ codes "with" ∷ codes "case"
    ∷ codes "of" ∷ codes "let" ∷ codes "in" ∷ codes "if" ∷ codes "then" ∷ codes "else" ∷ codes
    "fork" ∷ codes "not" ∷ codes "close" ∷ codes "wait" ∷ []

-- the reserved words that begin with `A` to `Z`
abbrev pub upper_words : List (List ℕ)
upper_words = codes "True" ∷ codes "False" ∷ codes "Int" ∷ codes "Bool" ∷ codes "Char" ∷ codes
    "Skip" ∷ codes "Close" ∷ codes "Wait" ∷ []

-- the text is a reserved word
abbrev pub is_reserved : List ℕ → Bool
is_reserved text = list_any (bytes_eq text) lower_words || list_any (bytes_eq text) upper_words
