-- The piece that stands next in a text.
use Rattle.std.specs.Prelude.{◌≡◌, ◌≤◌, true, List, ◌++◌, length}
use Rattle.fst_lexer.specs.declared.pieces.Placed.{Placed}
use Rattle.fst_lexer.specs.declared.pieces.Piece.{Piece}
use Rattle.fst_lexer.specs.Piece.{is_piece}

-- the text begins with this piece, and with none that is longer
pub record IsNext (text : List Placed) (p : Piece) (word rest : List Placed) : Type 0 where
  pub parts : text ≡ word ++ rest
  pub is : is_piece p word ≡ true
  pub longest : (q : Piece) (v r : List Placed) → text ≡ v ++ r → is_piece q v ≡ true →
      length v ≤ length word

-- the text begins with no piece
abbrev pub NoPiece : List Placed → Type 0
NoPiece text = (q : Piece) (v r : List Placed) → text ≡ v ++ r → is_piece q v ≡ true → ⊥
