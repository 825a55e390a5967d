use Rattle.std.proofs.Common.{map, take}
use Rattle.fst_terms.specs.ModuleTree.{decl_tree}
use Rattle.fst_declarations.specs.Declarations.{known_in}
use Rattle.fst_names.proofs.PartLaws.{next_added, next_sound}
use Rattle.fst_names.proofs.parts.add_decls.Goals as goal

pub add_decl-requires : goal.add_decl-requires
add_decl-requires g c =
    let sound = next_sound g.ds (known_in c.args.declarations.now) c.args.decls.now c.loop-decl.decl-index c.decl-item.result
    c.loop-decl-test.true c.decl-item.is c.loop-decl.invariant.sound in
    (c.requires.0, (c.requires.1.0, sound.0))

pub loop-decl-preserved : goal.loop-decl-preserved
loop-decl-preserved g c = record {
  added = next_added g.ds (known_in c.args.declarations.now) c.args.decls.now c.loop-decl.decl-index c.decl-item.result _
      c.loop-decl-test.true c.decl-item.is
      (c.in_ok-add_decl.ensures (map decl_tree (take c.loop-decl.decl-index c.args.decls.now)) c.loop-decl.invariant.added);
  sound = (next_sound g.ds (known_in c.args.declarations.now) c.args.decls.now c.loop-decl.decl-index c.decl-item.result
      c.loop-decl-test.true c.decl-item.is c.loop-decl.invariant.sound).1;
}
