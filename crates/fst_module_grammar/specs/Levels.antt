-- The chains of operators by how tightly they bind, arms as they are read, and what is looked for where nothing may be opened
-- any more.
use Rattle.std.specs.Prelude.{◌≡◌, ℕ, Bool, Option, Result, Ok, Err, codes}
use Rattle.fst_terms.specs.declared.term.Op.{Op}
use Rattle.fst_terms.specs.declared.term.Op.TheVariants as op
use Rattle.fst_terms.specs.declared.term.SourceArm.{SourceArm}
use Rattle.fst_terms.specs.TermTree as term
use Rattle.fst_terms.specs.TermTree.{TermTree}
use Rattle.fst_module_grammar.specs.declared.operators.Level.{Level}
use Rattle.fst_module_grammar.specs.declared.operators.Level.TheVariants.{Or, And, Sum, Product}
use Rattle.fst_module_grammar.specs.declared.shut.Wanted.{Wanted}
use Rattle.fst_module_grammar.specs.declared.shut.Wanted.TheVariants as wanted
use Rattle.fst_module_grammar.specs.declared.heads.Binding.{Binding}
use Rattle.fst_module_grammar.specs.declared.heads.Binding.TheVariants.{One, Two}
use Rattle.fst_reading.specs.declared.stop.Stop.{Stop}
use Rattle.fst_reading.specs.Lexeme.{Lexeme}
use Rattle.fst_reading.specs.Reading.{Reader, Halt}
use Rattle.fst_reading.specs.Gives.{Fails}
use Rattle.fst_type_syntax.specs.TypeReading.{starts_type_atom}
use Rattle.fst_module_grammar.specs.TermReading.{Inside, Arm, is_upper, starts_atom, starts_unary, starts_expr, addition, operator, unary_with, prod_with, cmp_with, and_with, chain}

-- the operator that a chain has between its operands
abbrev pub operator_of : Level → Lexeme → Option Op
operator_of Or = operator (codes "||") op.Or
operator_of And = operator (codes "&&") op.And
operator_of Sum = addition
operator_of Product = operator (codes "*") op.Multiply

-- an operand of a chain
abbrev pub operand_with : Level → Inside → Reader TermTree
operand_with Or = and_with
operand_with And = cmp_with
operand_with Sum = prod_with
operand_with Product = unary_with

-- a chain
abbrev pub level_with : Level → Inside → Reader TermTree
level_with l = chain (operator_of l) (operand_with l)

-- an arm as it is read
abbrev pub arm_parts : SourceArm → Arm
arm_parts b = (b.label, (b.binders.items, b.body))

-- the term that binds these names
abbrev pub bind_term : ℕ → Binding → TermTree → TermTree → TermTree
bind_term at (One x) = term.let_in at x
bind_term at (Two x y) = term.split at x y

-- what is read goes on so behind what the code read, or it stopped as that does
abbrev pub GoesOn : {X Y : Type 0} → (X → Result Y Halt) → Result X Stop → Result Y Halt → Type 0
GoesOn more (Ok x) read = read ≡ more x
GoesOn more (Err e) read = Fails e read

-- whether what is looked for may begin with this token
abbrev pub starts_wanted : Wanted → Lexeme → Bool
starts_wanted wanted.Atom = starts_atom
starts_wanted wanted.Operand = starts_unary
starts_wanted wanted.Term = starts_expr
starts_wanted wanted.Label = is_upper
starts_wanted wanted.Type = starts_type_atom
