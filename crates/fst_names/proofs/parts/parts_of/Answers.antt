use Rattle.std.proofs.Common.{map}
use Rattle.fst_terms.specs.ModuleTree.{decl_tree}
use Rattle.fst_declarations.specs.Declarations.{known_in}
use Rattle.fst_names.proofs.FaultlessTrees.{sound}
use Rattle.fst_names.proofs.PartLaws.{no_parts}
use Rattle.fst_names.proofs.parts.parts_of.Goals as goal

pub add_decls-requires : goal.add_decls-requires
add_decls-requires c =
    let ds = map decl_tree c.args.decls.now in
    let d = c.args.declarations.now in
    let none = no_parts ds (known_in d) _ c.new.ensures.items c.new-2.ensures.items c.new-3.ensures.items c.new-4.ensures.items
    c.new-5.ensures.items in
    (c.requires.whole, (c.requires.trees, ((sound ds d c.requires.whole).decls, none)))
