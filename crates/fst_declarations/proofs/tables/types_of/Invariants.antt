use Rattle.std.proofs.Common.{◌≡◌, ◌≤◌, map, take}
use Rattle.fst_terms.specs.ModuleTree.{decl_tree}
use Rattle.fst_scopes.specs.Scopes.{entry_decl}
use Rattle.fst_declarations.specs.Tables.{IsKept, types_from}
use Rattle.fst_declarations.proofs.DeclaredTables.{families_in}
use Rattle.fst_declarations.proofs.tables.types_of.Given as goal

abbrev pub invariant-loop-decl : goal.invariant-loop-decl
invariant-loop-decl l = record {
  kept : IsKept entry_decl l.initial.least (types_from 0 (map decl_tree (take l.decl-index l.decls))) l.names l.entries.items
      l.least;
  count : l.families ≡ families_in (map decl_tree (take l.decl-index l.decls));
  few : l.families ≤ l.decl-index;
}
