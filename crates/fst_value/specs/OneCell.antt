-- What single cells are: how many parts follow, and which end.
use Rattle.std.specs.Prelude.{ℕ, List, [], ◌∷◌}
use Rattle.fst_types.specs.declared.ends.EndName.{EndName}
use Rattle.fst_value.specs.declared.cells.Cell.{Cell}
use Rattle.fst_value.specs.declared.cells.Cell.TheVariants as cell

-- the end at a cell, if it is one
abbrev pub ends_at : Cell → List EndName
ends_at (cell.Int n) = []
ends_at (cell.Bool b) = []
ends_at (cell.Char c) = []
ends_at cell.Unit = []
ends_at cell.Pair = []
ends_at (cell.Make n o k) = []
ends_at (cell.Function l k) = []
ends_at (cell.End x) = x ∷ []

-- how many values a cell has as its parts
abbrev pub arity : Cell → ℕ
arity (cell.Int n) = 0
arity (cell.Bool b) = 0
arity (cell.Char c) = 0
arity cell.Unit = 0
arity cell.Pair = 2
arity (cell.Make n o k) = k
arity (cell.Function l k) = k
arity (cell.End x) = 0
