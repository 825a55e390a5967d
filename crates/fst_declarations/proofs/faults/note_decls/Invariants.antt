use Rattle.std.proofs.Common.{◌≡◌, List, drop, map}
use Rattle.fst_terms.specs.ModuleTree.{Declared, decl_tree}
use Rattle.fst_scopes.specs.First.{first_from}
use Rattle.fst_declarations.specs.Declarations.{AreDeclarations, known_in}
use Rattle.fst_declarations.specs.ModuleFaults.{decls_faults}
use Rattle.fst_declarations.proofs.faults.note_decls.Given as goal

abbrev pub invariant-loop-decl : goal.invariant-loop-decl
invariant-loop-decl l = (ds : List Declared) → AreDeclarations ds l.declarations →
    first_from l.least (decls_faults ds (known_in l.declarations) (map decl_tree (drop l.decl-index l.decls))) ≡
    first_from l.initial.least (decls_faults ds (known_in l.declarations) (map decl_tree l.decls))
