-- What the readers answer, as the definitions see it.
use Rattle.std.specs.Prelude.{ℕ, List, Result, Ok, Err}
use Rattle.fst_types.specs.WrittenTree.{WrittenTree}
use Rattle.fst_types.specs.declared.written.WrittenBranch.{WrittenBranch}
use Rattle.fst_reading.specs.declared.fault.SyntaxFault.{SyntaxFault}
use Rattle.fst_type_syntax.specs.declared.source.SourceQuestion.{SourceQuestion}
use Rattle.fst_type_syntax.specs.Grammar.{Asked}

-- a branch as its label and its type
abbrev pub labelled : WrittenBranch → List ℕ × WrittenTree
labelled b = (b.label, b.body)

-- the binders of a question with their kinds, and its two types
abbrev pub question_tree : SourceQuestion → Asked
question_tree q = record { binders = q.binders.items; left = q.left; right = q.right }

-- what the reader of questions answers, as the definitions see it
abbrev pub question_view : Result SourceQuestion SyntaxFault → Result Asked SyntaxFault
question_view (Ok q) = Ok (question_tree q)
question_view (Err e) = Err e

-- what the reader of types answers, as the definitions see it
abbrev pub type_view : Result (WrittenTree × ℕ) SyntaxFault → Result (WrittenTree × ℕ) SyntaxFault
type_view r = r
