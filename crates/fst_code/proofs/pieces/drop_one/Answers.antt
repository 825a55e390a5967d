use Rattle.fst_code.specs.Written.{compiled}
use Rattle.fst_code.proofs.PieceLaws.{drops_one}
use Rattle.fst_code.proofs.pieces.drop_one.Goals as goal

pub returns : goal.returns
returns c = λ fs. drops_one (compiled fs c.args.out.now) (compiled fs c.push.new.out) (compiled fs c.push-2.new.out) c.args.k
    (c.in_ok-push.ensures fs) (c.in_ok-push-2.ensures fs)
