use Rattle.std.proofs.Common.{map, take}
use Rattle.fst_terms.specs.ModuleTree.{decl_tree}
use Rattle.fst_scopes.proofs.Laws.{IsNoted}
use Rattle.fst_declarations.specs.ModuleNames.{equation_names}
use Rattle.fst_declarations.proofs.tables.equations_of.Given as goal

abbrev pub invariant-loop-decl : goal.invariant-loop-decl
invariant-loop-decl l = IsNoted l.initial.least (equation_names (map decl_tree (take l.decl-index l.decls))) l.names l.least
