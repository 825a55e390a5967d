use Rattle.std.proofs.Common.{arith}
use Rattle.fst_lexer.proofs.NumberLaws.{too_wide, all_read}
use Rattle.fst_lexer.proofs.making.number_of.Goals as goal

pub returns-then-next-greatest-clause-value : goal.returns-then-next-greatest-clause-value
returns-then-next-greatest-clause-value c =
    too_wide c.args.word.now c.loop-p.value c.loop-p.p-index (record { at = 0; ch = 0 }) c.loop-p-test.true c.loop-p.invariant.0
    (omega (arith, c.saturating_sub.ensures, c.from.ensures, c.from-in-loop-p.ensures))

pub returns-clause-value : goal.returns-clause-value
returns-clause-value c = all_read c.args.word.now c.loop-p.value c.loop-p.p-index c.loop-p-test.false c.loop-p.invariant.0
    c.loop-p.invariant.1
