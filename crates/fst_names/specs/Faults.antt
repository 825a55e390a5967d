-- The faults of names and sizes that a question has.
use Rattle.std.specs.Prelude.{ℕ, List, ◌++◌, Option, None}
use Rattle.fst_types.specs.Tree.{Tree}
use Rattle.fst_terms.specs.Naming.{Scope}
use Rattle.fst_type_syntax.specs.Grammar.{Asked}
use Rattle.fst_scopes.specs.declared.fault.NameFault.{NameFault}
use Rattle.fst_scopes.specs.Faults.{type_faults}
use Rattle.fst_scopes.specs.Twice.{names, twice, variables}
use Rattle.fst_scopes.specs.TypeNames.{TypeDecl, scope_with}

-- no type is declared
abbrev pub no_types : List ℕ → Option TypeDecl
no_types x = None

-- no alias stands for a type
abbrev pub no_aliases : List ℕ → Option Tree
no_aliases x = None

-- what is in scope in a question: its variables
abbrev pub scope_of : Asked → Scope
scope_of q = scope_with (names (variables q.binders)) no_types no_aliases

-- the faults of a question's types
abbrev pub types_faults : Asked → List NameFault
types_faults q = type_faults (scope_of q) q.left ++ type_faults (scope_of q) q.right

-- all faults of a question
abbrev pub question_faults : Asked → List NameFault
question_faults q = twice (variables q.binders) ++ types_faults q
