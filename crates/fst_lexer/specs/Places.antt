-- Characters and where they begin.
use Rattle.std.specs.Prelude.{ℕ, ◌+◌, List, [], ◌∷◌}
use Rattle.std.specs.Char.{len_utf8}
use Rattle.fst_lexer.specs.declared.pieces.Placed.{Placed}

-- each character, and at which byte it begins, the first one at this byte
abbrev pub place_all : ℕ → List ℕ → List Placed
place_all at [] = []
place_all at (c ∷ cs) = record { at = at; ch = c } ∷ place_all (at + len_utf8 c) cs
