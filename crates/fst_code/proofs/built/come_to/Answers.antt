use Rattle.std.proofs.Common.{◌≡◌, length, arith}
use Rattle.fst_code.specs.Written.{compiled}
use Rattle.fst_code.proofs.PieceLaws.{comes_here, comes_jump}
use Rattle.fst_code.proofs.built.come_to.Goals as goal

pub returns-then-top_of-place : goal.returns-then-top_of-place
returns-then-top_of-place c = λ fs. let e : length c.args.out.now.code.items ≡ c.args.place = omega arith in
    comes_here (compiled fs c.args.out.now) c.args.place e

pub returns : goal.returns
returns c = λ fs. comes_jump (compiled fs c.args.out.now) (compiled fs c.push.new.out) c.args.place (c.in_ok-push.ensures fs)
