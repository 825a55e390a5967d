use Rattle.std.proofs.Common.{sym, subst}
use Rattle.fst_machine.specs.Code.{Lists, dropped}
use Rattle.fst_code.proofs.pieces.forget_here.Goals as goal

pub returns : goal.returns
returns c = λ fs q f p ea eb. c.in_ok-drop_before.ensures fs q f p
    (subst (λ z. Lists z (dropped q f p)) (sym c.deref.ensures.value) (c.in_ok-variables.ensures q f p ea eb))
