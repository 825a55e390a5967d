use Rattle.std.proofs.Common.{refl, arith}
use Rattle.std.specs.Prelude.{◌&&◌, not}
use Rattle.fst_code.proofs.MarkLaws.{marked_both}
use Rattle.fst_code.proofs.marks.only_in.Goals as goal

pub returns-clause-marks : goal.returns-clause-marks
returns-clause-marks c = marked_both (λ a b. a && not b) refl c.args.all.now c.args.some.now c.loop-i.marks.items (omega arith)
    (omega arith) (λ k h. c.loop-i.invariant.done k (omega arith))
