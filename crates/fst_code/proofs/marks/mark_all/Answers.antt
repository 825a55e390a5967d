use Rattle.std.proofs.Common.{refl, arith}
use Rattle.std.specs.Prelude.{◌||◌}
use Rattle.std.proofs.Math.Path.{fun_ext}
use Rattle.fst_code.proofs.MarkLaws.{marked_both}
use Rattle.fst_code.proofs.marks.mark_all.Goals as goal

pub returns-clause-marks : goal.returns-clause-marks
returns-clause-marks c = fun_ext (marked_both (λ a b. a || b) refl c.args.others.now c.args.later.now.items c.loop-i.later.items
    (omega (arith, c.requires, c.loop-i.invariant.deep))
    (omega (arith, c.requires)) (λ k h. c.loop-i.invariant.done k (omega arith)))
