use Rattle.std.proofs.Common.{◌≡◌, length, sym, subst, arith}
use Rattle.std.proofs.lemmas.List.{nil_from_length}
use Rattle.fst_machine.specs.Code.{Lists, dropped}
use Rattle.fst_code.specs.Written.{Forgot, compiled}
use Rattle.fst_code.proofs.PieceLaws.{forgot_none}
use Rattle.fst_code.proofs.pieces.forget.Goals as goal

pub returns-then-is_empty : goal.returns-then-is_empty
returns-then-is_empty c = λ fs q f p ea eb.
    let ks = c.in_ok-variables.variables.items in
    let none : length ks ≡ 0 = grind (
      arith,
      c.if-is_empty.ensures,
      c.is_empty.ensures,
      c.if-is_empty.true,
      c.in_ok-variables.variables.ok.0,
    ) in
    forgot_none (compiled fs c.args.out.now) ks q f p c.args.start (nil_from_length ks none)
    (c.in_ok-variables.ensures q f p ea eb) c.requires.place

pub returns : goal.returns
returns c = λ fs q f p ea eb.
    let x = c.in_ok-drop_before.ensures fs q f p (subst
    (λ z. Lists z (dropped q f p)) (sym c.deref.ensures.value) (c.in_ok-variables.ensures q f p ea eb)) in
    subst (λ z. Forgot (compiled fs c.args.out.now) (compiled fs c.drop_before.new.out) z q f p c.args.start)
    (sym c.top_of.ensures) x
