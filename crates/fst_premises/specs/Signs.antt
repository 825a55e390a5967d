-- The types that signs ask for and give.
use Rattle.std.specs.Prelude.{Option, Some, None}
use Rattle.fst_types.specs.Tree.{Tree, plain}
use Rattle.fst_types.specs.declared.base.Base.TheVariants.{Int, Bool as Truth}
use Rattle.fst_terms.specs.declared.term.Op.{Op}
use Rattle.fst_terms.specs.declared.term.Op.TheVariants.{Add, Subtract, Multiply, Equal, Unequal, Less, AtMost, Greater, AtLeast, And, Or}

-- the type of the operands of a sign, where it is one
abbrev pub operand : Op → Option Tree
operand Add = Some (plain Int)
operand Subtract = Some (plain Int)
operand Multiply = Some (plain Int)
operand Equal = None
operand Unequal = None
operand Less = None
operand AtMost = None
operand Greater = None
operand AtLeast = None
operand And = Some (plain Truth)
operand Or = Some (plain Truth)

-- the type of what a sign gives
abbrev pub result_type : Op → Tree
result_type Add = plain Int
result_type Subtract = plain Int
result_type Multiply = plain Int
result_type Equal = plain Truth
result_type Unequal = plain Truth
result_type Less = plain Truth
result_type AtMost = plain Truth
result_type Greater = plain Truth
result_type AtLeast = plain Truth
result_type And = plain Truth
result_type Or = plain Truth
