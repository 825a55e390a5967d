use Rattle.std.proofs.Common.{map, take}
use Rattle.fst_terms.specs.ModuleTree.{decl_tree}
use Rattle.fst_scopes.specs.Twice.{AreNames}
use Rattle.fst_declarations.proofs.DeclaredTables.{global_names}
use Rattle.fst_declarations.proofs.tables.globals_of.Given as goal

abbrev pub invariant-loop-decl : goal.invariant-loop-decl
invariant-loop-decl l = AreNames (global_names (map decl_tree (take l.decl-index l.decls))) l.names
