-- A value's root and its parts.
use Rattle.std.specs.Prelude.{Bool, true, false, Option, Some, None, List, [], ◌∷◌}
use Rattle.fst_value.specs.ValueTree.{ValueTree, int, bool, char, unit, pair, make, function, end, ValueTrees, none, value}
use Rattle.fst_types.specs.declared.ends.EndName.{EndName}
use Rattle.fst_value.specs.declared.cells.Cell.{Cell}
use Rattle.fst_value.specs.declared.cells.Cell.TheVariants as cell
use Rattle.fst_value.specs.declared.value.Form.{Form}
use Rattle.fst_value.specs.declared.value.Form.TheVariants as form
use Rattle.fst_value.specs.Stacks.{stacked}
use Rattle.fst_value.specs.Cells.{count}

-- the cell at the root of a value
abbrev pub root_of : ValueTree → Cell
root_of (int n) = cell.Int n
root_of (bool b) = cell.Bool b
root_of (char c) = cell.Char c
root_of unit = cell.Unit
root_of (pair v w) = cell.Pair
root_of (make n o vs) = cell.Make n o (count vs)
root_of (function l vs) = cell.Function l (count vs)
root_of (end x) = cell.End x

-- its parts, in order
abbrev pub parts_of : ValueTree → ValueTrees
parts_of (int n) = none
parts_of (bool b) = none
parts_of (char c) = none
parts_of unit = none
parts_of (pair v w) = value v (value w none)
parts_of (make n o vs) = vs
parts_of (function l vs) = vs
parts_of (end x) = none

-- these values in a list
abbrev pub listed : ValueTrees → List ValueTree
listed vs = stacked vs []

-- what a cell is the root of
abbrev pub form_at : Cell → Form
form_at (cell.Int n) = form.Int n
form_at (cell.Bool b) = form.Bool b
form_at (cell.Char c) = form.Char c
form_at cell.Unit = form.Unit
form_at cell.Pair = form.Pair
form_at (cell.Make n o k) = form.Make n o
form_at (cell.Function l k) = form.Function l
form_at (cell.End x) = form.End

-- what a value is
abbrev pub form_of : ValueTree → Form
form_of (int n) = form.Int n
form_of (bool b) = form.Bool b
form_of (char c) = form.Char c
form_of unit = form.Unit
form_of (pair v w) = form.Pair
form_of (make n o vs) = form.Make n o
form_of (function l vs) = form.Function l
form_of (end x) = form.End

-- the last value is replaced by its parts, the first one last
abbrev pub unjoined : List ValueTree → List ValueTree
unjoined [] = []
unjoined (v ∷ ops) = stacked (parts_of v) ops

-- it is a pair
abbrev pub pair_form : Form → Bool
pair_form (form.Int n) = false
pair_form (form.Bool b) = false
pair_form (form.Char c) = false
pair_form form.Unit = false
pair_form form.Pair = true
pair_form (form.Make n o) = false
pair_form (form.Function l) = false
pair_form form.End = false

-- it is a constructor
abbrev pub make_form : Form → Bool
make_form (form.Int n) = false
make_form (form.Bool b) = false
make_form (form.Char c) = false
make_form form.Unit = false
make_form form.Pair = false
make_form (form.Make n o) = true
make_form (form.Function l) = false
make_form form.End = false

-- it is a function
abbrev pub function_form : Form → Bool
function_form (form.Int n) = false
function_form (form.Bool b) = false
function_form (form.Char c) = false
function_form form.Unit = false
function_form form.Pair = false
function_form (form.Make n o) = false
function_form (form.Function l) = true
function_form form.End = false

-- the end that a value is
abbrev pub end_in : ValueTree → Option EndName
end_in (int n) = None
end_in (bool b) = None
end_in (char c) = None
end_in unit = None
end_in (pair v w) = None
end_in (make n o vs) = None
end_in (function l vs) = None
end_in (end x) = Some x

-- it is the unit value
abbrev pub unit_form : Form → Bool
unit_form (form.Int n) = false
unit_form (form.Bool b) = false
unit_form (form.Char c) = false
unit_form form.Unit = true
unit_form form.Pair = false
unit_form (form.Make n o) = false
unit_form (form.Function l) = false
unit_form form.End = false

-- a pair whose first part is the unit value
abbrev pub unit_first : ValueTree → Bool
unit_first (pair v w) = unit_form (form_of v)
unit_first v = false

-- the cell of a number, a truth value or a character with this form
abbrev pub cell_with : Form → Option Cell
cell_with (form.Int n) = Some (cell.Int n)
cell_with (form.Bool b) = Some (cell.Bool b)
cell_with (form.Char c) = Some (cell.Char c)
cell_with f = None

-- a pair whose first part is the unit value, with a number, a truth value or a character of this form in its place; any other value
-- stays as it is
abbrev pub with_first : Form → ValueTree → ValueTree
with_first (form.Int n) (pair unit w) = pair (int n) w
with_first (form.Bool b) (pair unit w) = pair (bool b) w
with_first (form.Char c) (pair unit w) = pair (char c) w
with_first f v = v
