use Rattle.fst_declarations.specs.Declarations.{known_in}
use Rattle.fst_names.proofs.PartLaws.{maker_made, maker_sound}
use Rattle.fst_names.proofs.parts.add_makers.Goals as goal

pub add_fields-requires : goal.add_fields-requires
add_fields-requires g c =
    let sound = maker_sound g.ds (known_in c.args.declarations.now) c.args.makers.now c.loop-maker.maker-index c.maker-item.result
    _ _ _ c.loop-maker-test.true c.maker-item.is c.loop-maker.invariant in
    (c.requires.0, (c.requires.1.0, rw c.deref.ensures.value sound))

pub loop-maker-preserved : goal.loop-maker-preserved
loop-maker-preserved g c =
    maker_made g.ds (known_in c.args.declarations.now) c.args.makers.now c.loop-maker.maker-index c.maker-item.result _ _ _
    c.loop-maker-test.true c.maker-item.is c.loop-maker.invariant _ _ _
    c.in_ok-name.ensures (rw c.deref.ensures.value at c.in_ok-fields.ensures.numbers) c.in_ok-push.ensures.items
    (rw c.deref.ensures.value at c.in_ok-fields.ensures.types)
