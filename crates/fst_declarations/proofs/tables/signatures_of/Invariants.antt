use Rattle.std.proofs.Common.{map, take}
use Rattle.fst_terms.specs.ModuleTree.{decl_tree}
use Rattle.fst_declarations.specs.Tables.{IsKept, named_signatures, signed_of}
use Rattle.fst_declarations.proofs.tables.signatures_of.Given as goal

abbrev pub invariant-loop-decl : goal.invariant-loop-decl
invariant-loop-decl l = IsKept signed_of l.initial.least
    (named_signatures (map decl_tree (take l.decl-index l.decls))) l.names l.entries.items l.least
