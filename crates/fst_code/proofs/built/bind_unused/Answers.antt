use Rattle.fst_code.specs.Written.{compiled}
use Rattle.fst_code.proofs.PieceLaws.{enters_unused}
use Rattle.fst_code.proofs.built.bind_unused.Goals as goal

pub returns : goal.returns
returns c = λ fs. enters_unused (compiled fs c.args.out.now) (compiled fs c.push.new.out) (compiled fs c.push-2.new.out)
    (compiled fs c.push-3.new.out) (c.in_ok-push.ensures fs)
    (c.in_ok-push-2.ensures fs) (c.in_ok-push-3.ensures fs)
