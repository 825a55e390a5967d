use Rattle.std.proofs.Common.{◌≡◌, ◌≤◌, map, take}
use Rattle.fst_terms.specs.ModuleTree.{decl_tree}
use Rattle.fst_declarations.specs.Tables.{IsKept, itself, maker_entries}
use Rattle.fst_declarations.proofs.DeclaredTables.{families_in}
use Rattle.fst_declarations.proofs.tables.makers_of.Given as goal

abbrev pub invariant-loop-decl : goal.invariant-loop-decl
invariant-loop-decl l = record {
  kept : IsKept itself l.initial.least (maker_entries 0 (map decl_tree (take l.decl-index l.decls))) l.names l.entries.items
      l.least;
  count : l.families ≡ families_in (map decl_tree (take l.decl-index l.decls));
  few : l.families ≤ l.decl-index;
}
