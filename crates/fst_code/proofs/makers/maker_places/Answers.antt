use Rattle.std.proofs.Common.{◌<◌, refl, length, subst, arith}
use Rattle.std.proofs.lemmas.Option.{slice_get_read}
use Rattle.fst_code.specs.Makers.{ArePut}
use Rattle.fst_code.proofs.MakerLaws.{placed_all, placed_one}
use Rattle.fst_code.proofs.makers.maker_places.Goals as goal

pub loop-family-init : goal.loop-family-init
loop-family-init c = λ n o f m lt here at. absurd (omega (arith, lt))

pub loop-family-preserved : goal.loop-family-preserved
loop-family-preserved c =
    let families = c.args.families.now in
    let i = c.loop-family.family-index in
    let low : i < length families = omega arith in
    placed_one families i c.family-item.result c.loop-family.places.entries c.put_makers.new.places.entries c.requires
    (slice_get_read families (length families) i c.family-item.result refl low c.family-item.is) c.loop-family.invariant
    (subst (λ z. ArePut z c.loop-family.places.entries c.put_makers.new.places.entries) c.deref.ensures.value
    c.in_ok-put_makers.ensures)

pub returns : goal.returns
returns c = placed_all c.args.families.now c.loop-family.family-index c.loop-family.places.entries c.requires
    c.loop-family.invariant (omega arith)
