use Rattle.std.proofs.Common.{◌≡◌, [], drop, map, take}
use Rattle.fst_terms.specs.ModuleTree.{decl_tree}
use Rattle.fst_declarations.specs.Declarations.{known_in}
use Rattle.fst_declarations.specs.ModuleFaults.{decls_faults}
use Rattle.fst_names.specs.Parts.{AreParts}
use Rattle.fst_names.proofs.parts.add_decls.Given as goal

abbrev pub invariant-loop-decl : goal.invariant-loop-decl
invariant-loop-decl g l = record {
  added : AreParts g.ds (known_in l.declarations) (map decl_tree (take l.decl-index l.decls)) l.parts;
  sound : decls_faults g.ds (known_in l.declarations) (map decl_tree (drop l.decl-index l.decls)) ≡ [];
}

abbrev pub ghost-add_decl : goal.ghost-add_decl
ghost-add_decl g a = g.ds
