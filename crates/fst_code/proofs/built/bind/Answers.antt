use Rattle.std.proofs.Common.{sym, subst}
use Rattle.fst_code.specs.Written.{Enters, compiled}
use Rattle.fst_code.proofs.PieceLaws.{enters_used}
use Rattle.fst_code.proofs.built.bind.Goals as goal

pub returns-in_ok-push : goal.returns-in_ok-push
returns-in_ok-push c = λ fs. enters_used (compiled fs c.args.out.now) (compiled fs c.push.new.out) c.args.used c.if-used.true
    (c.in_ok-push.ensures fs)

pub returns-in_ok-bind_unused : goal.returns-in_ok-bind_unused
returns-in_ok-bind_unused c = λ fs. subst (λ z. Enters (compiled fs c.args.out.now) (compiled fs c.bind_unused.new.out) z)
    (sym c.if-used.false) (c.in_ok-bind_unused.ensures fs)
