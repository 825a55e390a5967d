-- The pieces of a text: blanks, comments and tokens.
use Rattle.std.specs.Prelude.{Bool, false, not, ◌&&◌, List, [], ◌∷◌}
use Rattle.std.specs.List.{list_all}
use Rattle.fst_lexer.specs.declared.pieces.Placed.{Placed}
use Rattle.fst_lexer.specs.declared.pieces.Piece.{Piece}
use Rattle.fst_lexer.specs.declared.pieces.Piece.TheVariants.{Blank, Comment, Name, Digits, Quoted, Sign}
use Rattle.fst_lexer.specs.Classes.{is_blank, is_dash, is_feed, is_quote, is_backslash, is_digit, is_plain, is_escape, is_short, is_long, starts_name, continues_name}

-- a piece of this kind is written so
abbrev pub is_piece : Piece → List Placed → Bool
is_piece Blank (c ∷ []) = is_blank c.ch
is_piece Comment (a ∷ b ∷ body) = (is_dash a.ch && is_dash b.ch) && list_all
    (λ p. not (is_feed p.ch)) body
is_piece Name (c ∷ cs) = starts_name c.ch && list_all (λ p. continues_name p.ch) cs
is_piece Digits (c ∷ cs) = is_digit c.ch && list_all (λ p. is_digit p.ch) cs
is_piece Quoted (a ∷ c ∷ b ∷ []) = is_quote a.ch && (is_plain c.ch && is_quote b.ch)
is_piece Quoted (a ∷ c ∷ e ∷ b ∷ []) =
    is_quote a.ch && (is_backslash c.ch && (is_escape e.ch && is_quote b.ch))
is_piece Sign (a ∷ []) = is_short a.ch
is_piece Sign (a ∷ b ∷ []) = is_long a.ch b.ch
is_piece _ _ = false
