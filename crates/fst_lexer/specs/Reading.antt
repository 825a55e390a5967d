-- How the next piece is found, from its first characters.
use Rattle.std.specs.Prelude.{ℕ, ◌+◌, Bool, false, not, ◌&&◌, List, [], ◌∷◌, Option, Some, None}
use Rattle.std.specs.List.{prefix_len}
use Rattle.fst_lexer.specs.declared.pieces.Placed.{Placed}
use Rattle.fst_lexer.specs.declared.pieces.Piece.{Piece}
use Rattle.fst_lexer.specs.declared.pieces.Piece.TheVariants.{Blank, Comment, Name, Digits, Quoted, Sign}
use Rattle.fst_base.specs.Choice.{choose}
use Rattle.fst_lexer.specs.Classes.{is_blank, is_dash, is_feed, is_quote, is_backslash, is_digit, is_plain, is_escape, is_short, is_long, starts_name, continues_name}

-- the sign at the front of a text, and how many characters it has
abbrev pub sign_at : List Placed → Option (Piece × ℕ)
sign_at [] = None
sign_at (a ∷ []) = choose (is_short a.ch) (Some (Sign, 1)) None
sign_at (a ∷ b ∷ cs) = choose (is_long a.ch b.ch) (Some (Sign, 2))
    (choose (is_short a.ch) (Some (Sign, 1)) None)

-- the text goes on behind a quote as a character with a backslash does
abbrev pub escaped_at : List Placed → Option (Piece × ℕ)
escaped_at (c ∷ e ∷ b ∷ cs) = choose (is_backslash c.ch && (is_escape e.ch && is_quote b.ch))
    (Some (Quoted, 4)) None
escaped_at _ = None

-- the text goes on behind a quote as a character token does
abbrev pub quoted_at : List Placed → Option (Piece × ℕ)
quoted_at (c ∷ b ∷ cs) = choose (is_plain c.ch && is_quote b.ch) (Some (Quoted, 3))
    (escaped_at (c ∷ b ∷ cs))
quoted_at _ = None

-- the text begins as a comment does
abbrev pub begins_comment : List Placed → Bool
begins_comment (a ∷ b ∷ cs) = is_dash a.ch && is_dash b.ch
begins_comment _ = false

-- the longest piece at the front of a text, and how many characters it has
unfoldable pub piece_at : List Placed → Option (Piece × ℕ)
piece_at [] = None
piece_at (c ∷ cs) =
    choose (is_blank c.ch) (Some (Blank, 1))
    (choose (starts_name c.ch) (Some (Name, 1 + prefix_len (λ p. continues_name p.ch) cs))
    (choose (is_digit c.ch) (Some (Digits, 1 + prefix_len (λ p. is_digit p.ch) cs))
    (choose (is_quote c.ch) (quoted_at cs)
    (choose (begins_comment (c ∷ cs)) (Some (Comment, 1 + prefix_len (λ p. not (is_feed p.ch)) cs))
    (sign_at (c ∷ cs))))))
