use Rattle.std.proofs.Common.{arith}
use Rattle.fst_expand.proofs.BridgeLaws.{unmarked_all, unmarked_front}
use Rattle.fst_expand.proofs.bridge.first_marked.Goals as goal

pub returns-then-marks-n-clause-before : goal.returns-then-marks-n-clause-before
returns-then-marks-n-clause-before c = unmarked_front c.args.marks.now c.args.word.now c.loop-i.i c.loop-i.invariant

pub returns-clause-none : goal.returns-clause-none
returns-clause-none c = unmarked_all c.args.marks.now c.args.word.now (λ k l. c.loop-i.invariant k (omega arith))
