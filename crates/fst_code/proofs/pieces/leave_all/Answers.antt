use Rattle.std.proofs.Common.{◌≡◌, [], length, arith}
use Rattle.fst_code.specs.Marks.{marked}
use Rattle.fst_code.specs.Written.{compiled}
use Rattle.fst_code.proofs.UnderLaws.{left_more, left_none}
use Rattle.fst_code.proofs.pieces.leave_all.Goals as goal

pub loop-i-init : goal.loop-i-init
loop-i-init c = record { left = λ fs. left_none (compiled fs c.args.out.now) c.args.later.now.items; deep = omega arith }

pub loop-i-preserved : goal.loop-i-preserved
loop-i-preserved c = record {
  left = λ fs. left_more (compiled fs c.args.out.now) (compiled fs c.loop-i.out) (compiled fs c.bind.new.out)
      (marked c.args.later.now.items) c.loop-i.later.items c.leave-used.new.later.items
      c.leave-used.result c.loop-i._i
      (c.loop-i.invariant.left fs) c.leave-used.ensures.marks (c.in_ok-bind.ensures fs);
  deep = omega (arith, c.leave-used.ensures.deep, c.loop-i.invariant.deep);
}

pub returns-clause-code : goal.returns-clause-code
returns-clause-code c = λ fs xs h. let e : length xs ≡ c.loop-i._i = omega arith in let l = c.loop-i.invariant.left fs in
    record { extends = l.extends; entries = l.entries; there = l.binds xs e }

pub returns-clause-marks : goal.returns-clause-marks
returns-clause-marks c = λ xs h. let e : length xs ≡ c.loop-i._i = omega arith in let l = c.loop-i.invariant.left [] in
    l.marks xs e
