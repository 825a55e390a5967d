-- The nodes that values are kept as: each cell with how many cells the value has that begins with it.
use Rattle.std.specs.Prelude.{◌≡◌, suc, List, [], ◌∷◌, ◌++◌, length}
use Rattle.std.specs.List.{flat_map}
use Rattle.fst_value.specs.ValueTree.{ValueTree, int, bool, char, unit, pair, make, function, end, ValueTrees, none, value}
use Rattle.fst_value.specs.declared.cells.Cell.{Cell}
use Rattle.fst_value.specs.declared.cells.Cell.TheVariants as cell
use Rattle.fst_value.specs.declared.nodes.Node.{Node}
use Rattle.fst_value.specs.Cells.{count, spelled, rooted}

-- a root in front of the nodes of its parts
abbrev pub headed : Cell → List Node → List Node
headed c ns = record { cell = c; size = suc (length ns) } ∷ ns

abbrev mutual
  -- the nodes of a value, in preorder
  pub nodes_of : ValueTree → List Node
  nodes_of (int n) = headed (cell.Int n) []
  nodes_of (bool b) = headed (cell.Bool b) []
  nodes_of (char c) = headed (cell.Char c) []
  nodes_of unit = headed cell.Unit []
  nodes_of (pair v w) = headed cell.Pair (nodes_of v ++ nodes_of w)
  nodes_of (make n o vs) = headed (cell.Make n o (count vs)) (nodes_of_all vs)
  nodes_of (function l vs) = headed (cell.Function l (count vs)) (nodes_of_all vs)
  nodes_of (end x) = headed (cell.End x) []

  -- the nodes of values, one after another
  pub nodes_of_all : ValueTrees → List Node
  nodes_of_all none = []
  nodes_of_all (value v vs) = nodes_of v ++ nodes_of_all vs

-- the cells of nodes
abbrev pub cells_in : List Node → List Cell
cells_in [] = []
cells_in (n ∷ ns) = n.cell ∷ cells_in ns

-- the values that nodes spell
abbrev pub values_in : List Node → List ValueTree
values_in ns = spelled (cells_in ns)

-- these nodes are those of the values that they spell
abbrev pub AreNodes : List Node → Type 0
AreNodes ns = ns ≡ flat_map nodes_of (values_in ns)

-- the value that is kept as a root and the nodes of its parts
abbrev pub tree_of : Cell → List Node → ValueTree
tree_of c ns = rooted c (values_in ns)

-- these are the root of a value and the nodes of its parts
abbrev pub IsKept : Cell → List Node → Type 0
IsKept c ns = headed c ns ≡ nodes_of (tree_of c ns)
