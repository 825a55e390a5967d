-- What the code keeps, as the definitions see it.
use Rattle.std.specs.Prelude.{◌≡◌, ◌+◌, ◌<◌, ◌^◌, List, map, length, All}
use Rattle.fst_base.specs.Order.{IsRising}
use Rattle.fst_types.specs.Order.{label_cmp}
use Rattle.fst_types.specs.Size.{nodes}
use Rattle.fst_parts.specs.Labels.{names}
use Rattle.fst_parts.specs.Views.{part_of, HasNumber, IsKept}
use Rattle.fst_grammar.specs.Word.{Numbers}
use Rattle.fst_grammar.specs.Parts.{numbers_by}
use Rattle.fst_grammar.specs.Equations.{Equation, own, like, equations_by}
use Rattle.fst_grammar.specs.declared.table.Table.{Table}
use Rattle.fst_grammar.specs.declared.equations.Equation.{Equation as Kept}
use Rattle.fst_grammar.specs.declared.equations.Equation.TheVariants.{Own, Like}

-- the numbers of the non-terminals that a table has
abbrev pub numbers_in : Table → Numbers
numbers_in t = numbers_by t.letters.items (map part_of t.parts.found.items)

-- the equations of all non-terminals that a table has
abbrev pub equations_in : Table → List Equation
equations_in t = equations_by t.letters.items (map part_of t.parts.found.items)

-- letters and names stand in label order, the names are those among the letters, all numbers of non-terminals fit into
-- 32 bits, and the parts are found by their numbers
pub record IsTable (t : Table) : Type 0 where
  pub names_are : t.names.items ≡ names t.letters.items
  pub letters_fit : length t.letters.items < 2 ^ 31
  pub numbers_fit : length t.names.items + length t.parts.found.items < 2 ^ 31
  pub letters_rise : IsRising label_cmp t.letters.items
  pub names_rise : IsRising label_cmp t.names.items
  pub kept : IsKept t.trees t.parts

-- a table of two types with their numbers, of few nodes each, whose parts end within their wholes
pub record IsWhole (t : Table) : Type 0 where
  pub table : IsTable t
  pub left : HasNumber t.trees t.left
  pub right : HasNumber t.trees t.right
  pub few_left : nodes t.left.ty.now < 2 ^ 31
  pub few_right : nodes t.right.ty.now < 2 ^ 31
  pub within : All (λ p. p.at + nodes p.part.ty.now < 2 ^ 31) t.parts.found.items

-- the equation that a kept one stands for
abbrev pub equation_of : Kept → Equation
equation_of (Own rules) = own rules.items
equation_of (Like w) = like w
