use Rattle.fst_code.specs.Written.{compiled}
use Rattle.fst_code.proofs.PieceLaws.{forgot_from}
use Rattle.fst_code.proofs.pieces.drop_before.Goals as goal

pub returns : goal.returns
returns c = λ fs q f p l. forgot_from (compiled fs c.args.out.now) (compiled fs c.come_to.new.out)
    (compiled fs c.drop_all.new.out) c.args.variables.now q f p c.args.start l
    (c.in_ok-come_to.ensures fs) (c.in_ok-drop_all.ensures fs)
