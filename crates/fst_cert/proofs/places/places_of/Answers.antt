use Rattle.fst_cert.proofs.VisitedLaws.{not_before}
use Rattle.fst_cert.proofs.places.places_of.Goals as goal

pub push-requires : goal.push-requires
push-requires c = let i = c.loop-pair.invariant in rw (c.as_slice.ensures, c.as_slice-in-loop-pair.ensures, i)
    (not_before c.args.basis.now c.loop-pair.pair-index c.pair-item.result c.requires c.loop-pair-test.true c.pair-item.is)
