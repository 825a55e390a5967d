use Rattle.std.proofs.Common.{◌<◌, refl, length, arith}
use Rattle.std.proofs.lemmas.Option.{slice_get_read}
use Rattle.fst_code.proofs.MakerLaws.{put_all, put_none, put_one}
use Rattle.fst_code.proofs.makers.put_makers.Goals as goal

pub loop-n-init : goal.loop-n-init
loop-n-init c = put_none c.args.makers.now c.args.places.now.entries

pub loop-n-preserved : goal.loop-n-preserved
loop-n-preserved c =
    let makers = c.args.makers.now in
    let low : c.loop-n.n < length makers = omega arith in
    put_one makers c.loop-n.n c.index-makers-n.result c.args.places.now.entries c.loop-n.places.entries c.put.new.places.entries
    (slice_get_read makers (length makers) c.loop-n.n c.index-makers-n.result refl low c.index-makers-n.is) c.loop-n.invariant
    c.in_ok-put.ensures

pub returns : goal.returns
returns c = put_all c.args.makers.now c.loop-n.n c.args.places.now.entries c.loop-n.places.entries c.loop-n.invariant
    (omega arith)
