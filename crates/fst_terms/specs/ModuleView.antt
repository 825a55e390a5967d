-- What contracts see of a module.
use Rattle.std.specs.Prelude.{List, map}
use Rattle.fst_terms.specs.declared.module.SourceModule.{SourceModule}
use Rattle.fst_terms.specs.ModuleTree.{Declared, decl_tree}

-- the declarations of a module in order of text
abbrev pub declarations : SourceModule → List Declared
declarations m = map decl_tree m.decls.items
