use Rattle.std.proofs.Common.{[], arith}
use Rattle.fst_written.proofs.RangeLaws.{below_at}
use Rattle.fst_written.proofs.numbers.marks_of.Goals as goal

pub index_mut-requires : goal.index_mut-requires
index_mut-requires c =
    let there = below_at (λ o. o.number) c.args.count c.args.standing.now c.loop-occurrence.occurrence-index
    (record { number = 0; kinds = record { ref_ptr = (0, 0); now = [] } }) c.requires c.loop-occurrence-test.true in
    omega (arith, there, c.loop-occurrence.invariant.long)
