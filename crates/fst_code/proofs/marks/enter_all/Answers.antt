use Rattle.std.proofs.Common.{◌≡◌, length, arith}
use Rattle.fst_code.specs.Marks.{marked}
use Rattle.fst_code.proofs.UnderLaws.{enter_more, enter_none}
use Rattle.fst_code.proofs.marks.enter_all.Goals as goal

pub loop-i-init : goal.loop-i-init
loop-i-init c = record { marks = enter_none (marked c.args.later.now.items); deep = omega arith }

pub loop-i-preserved : goal.loop-i-preserved
loop-i-preserved c = record {
  marks = enter_more (marked c.loop-i.later.items) (marked c.enter.new.later.items)
      (marked c.args.later.now.items) c.loop-i._i c.loop-i.invariant.marks c.in_ok-enter.ensures.marks;
  deep = omega (arith, c.in_ok-enter.ensures.deep, c.loop-i.invariant.deep);
}

pub returns-clause-marks : goal.returns-clause-marks
returns-clause-marks c = λ xs h. let e : length xs ≡ c.loop-i._i = omega arith in c.loop-i.invariant.marks xs e
