use Rattle.std.proofs.Common.{◌∙◌}
use Rattle.fst_declarations.specs.Declarations.{known_in}
use Rattle.fst_names.proofs.PartLaws.{field_numbered, field_sound}
use Rattle.fst_names.proofs.parts.add_fields.Goals as goal

pub add_type-requires : goal.add_type-requires
add_type-requires g c =
    let sound = field_sound g.ds (known_in c.args.declarations.now) c.args.fields.now c.loop-w.w-index c.w-item.result _ _ _
    c.loop-w-test.true c.w-item.is c.loop-w.invariant in
    (c.requires.0, (c.requires.1.0, rw c.args.declarations.now.none sound))

pub loop-w-preserved : goal.loop-w-preserved
loop-w-preserved g c =
    field_numbered g.ds (known_in c.args.declarations.now) c.args.fields.now c.loop-w.w-index c.w-item.result _ _ _
    c.loop-w-test.true c.w-item.is c.loop-w.invariant c.in_ok-number_of.field-0 _ _ _ c.args.declarations.now.none
    (c.in_ok-number_of.ensures ∙ c.len.ensures ∙ c.loop-w.list.types.ok.0) c.in_ok-push.ensures.items c.in_ok-add_type.ensures
