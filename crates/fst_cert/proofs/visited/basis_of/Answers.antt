use Rattle.fst_cert.proofs.VisitedLaws.{basis_push}
use Rattle.fst_cert.proofs.visited.basis_of.Goals as goal

pub loop-pair-preserved : goal.loop-pair-preserved
loop-pair-preserved c = basis_push c.args.pairs.now c.loop-pair.pair-index c.pair-item.result c.loop-pair.basis.items
    c.push.new.self.items c.in_ok-to_word.field-0 c.in_ok-to_word-2.field-0 c.loop-pair-test.true c.pair-item.is
    c.loop-pair.invariant c.in_ok-to_word.ensures c.in_ok-to_word-2.ensures c.in_ok-push.ensures.items
