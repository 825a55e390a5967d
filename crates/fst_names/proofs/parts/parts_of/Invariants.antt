use Rattle.std.proofs.Common.{map}
use Rattle.fst_terms.specs.ModuleTree.{decl_tree}
use Rattle.fst_names.proofs.parts.parts_of.Given as goal

abbrev pub ghost-add_decls : goal.ghost-add_decls
ghost-add_decls a = map decl_tree a.decls.now
