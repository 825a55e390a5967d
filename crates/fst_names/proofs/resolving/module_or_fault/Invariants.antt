use Rattle.std.proofs.Common.{map}
use Rattle.fst_terms.specs.ModuleTree.{decl_tree}
use Rattle.fst_names.proofs.resolving.module_or_fault.Given as goal

abbrev pub ghost-module_of : goal.ghost-module_of
ghost-module_of a = map decl_tree a.decls.now
