-- The cells that values are spelled as: one for each node of the tree, in preorder.
use Rattle.std.specs.Prelude.{ℕ, zero, suc, List, [], ◌∷◌, ◌++◌, drop}
use Rattle.fst_value.specs.ValueTree.{ValueTree, int, bool, char, unit, pair, make, function, end, ValueTrees, none, value}
use Rattle.fst_types.specs.declared.ends.EndName.{EndName}
use Rattle.fst_value.specs.declared.cells.Cell.{Cell}
use Rattle.fst_value.specs.declared.cells.Cell.TheVariants as cell

-- how many values there are
abbrev pub count : ValueTrees → ℕ
count none = zero
count (value v vs) = suc (count vs)

abbrev mutual
  -- the cells of a value, in preorder
  pub cells_of : ValueTree → List Cell
  cells_of (int n) = cell.Int n ∷ []
  cells_of (bool b) = cell.Bool b ∷ []
  cells_of (char c) = cell.Char c ∷ []
  cells_of unit = cell.Unit ∷ []
  cells_of (pair v w) = cell.Pair ∷ (cells_of v ++ cells_of w)
  cells_of (make n o vs) = cell.Make n o (count vs) ∷ cells_of_all vs
  cells_of (function l vs) = cell.Function l (count vs) ∷ cells_of_all vs
  cells_of (end x) = cell.End x ∷ []

  -- the cells of values, one after another
  pub cells_of_all : ValueTrees → List Cell
  cells_of_all none = []
  cells_of_all (value v vs) = cells_of v ++ cells_of_all vs

-- the first n of these values
abbrev pub taken : ℕ → List ValueTree → ValueTrees
taken zero vs = none
taken (suc n) [] = none
taken (suc n) (v ∷ vs) = value v (taken n vs)

-- the value of a cell, in front of those that it doesn't have as its parts; the values behind the cell are given
abbrev pub above : Cell → List ValueTree → List ValueTree
above (cell.Int n) vs = int n ∷ vs
above (cell.Bool b) vs = bool b ∷ vs
above (cell.Char c) vs = char c ∷ vs
above cell.Unit vs = unit ∷ vs
above cell.Pair [] = unit ∷ []
above cell.Pair (v ∷ []) = unit ∷ []
above cell.Pair (v ∷ w ∷ vs) = pair v w ∷ vs
above (cell.Make n o k) vs = make n o (taken k vs) ∷ drop k vs
above (cell.Function l k) vs = function l (taken k vs) ∷ drop k vs
above (cell.End x) vs = end x ∷ vs

-- the values that cells spell in preorder
abbrev pub spelled : List Cell → List ValueTree
spelled [] = []
spelled (c ∷ cs) = above c (spelled cs)

-- the first of these values, if there is one
abbrev pub first_or_unit : List ValueTree → ValueTree
first_or_unit [] = unit
first_or_unit (v ∷ vs) = v

-- the value with this root and these parts
abbrev pub rooted : Cell → List ValueTree → ValueTree
rooted c vs = first_or_unit (above c vs)

abbrev mutual
  -- the ends in a value, in order, each as often as it stands there
  pub ends_in : ValueTree → List EndName
  ends_in (int n) = []
  ends_in (bool b) = []
  ends_in (char c) = []
  ends_in unit = []
  ends_in (pair v w) = ends_in v ++ ends_in w
  ends_in (make n o vs) = ends_in_all vs
  ends_in (function l vs) = ends_in_all vs
  ends_in (end x) = x ∷ []

  -- the ends in values
  pub ends_in_all : ValueTrees → List EndName
  ends_in_all none = []
  ends_in_all (value v vs) = ends_in v ++ ends_in_all vs
