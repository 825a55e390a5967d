use Rattle.std.proofs.Common.{◌≡◌, ◌∙◌, ◌∷◌, length, drop, reverse, refl, sym, ap, arith}
use Rattle.fst_value.proofs.Turned.{last_turned, replaced}
use Rattle.fst_value.proofs.stack.Stack.replace.Goals as goal

pub returns-then-count-eq0-clause-replaced : goal.returns-then-count-eq0-clause-replaced
returns-then-count-eq0-clause-replaced c =
    let none : c.args.count ≡ 0 = omega (arith, c.if-count-eq0.true) in
    ap reverse c.in_ok-push.ensures.items
    ∙ last_turned c.self.inside.values.items c.args.value
    ∙ ap (λ vs. c.args.value ∷ vs) (c.self.view_is ∙ ap (λ n. drop n c.args.self.now) (sym none))

pub returns-clause-replaced : goal.returns-clause-replaced
returns-clause-replaced c =
    let n : c.len.result ≡ length c.self.inside.values.items = omega (arith, c.len.ensures, c.self.inside.values.ok) in
    replaced c.self.inside.values.items c.self.inside.values.items c.truncate.new.self.items c.push-2.new.self.items
    c.args.self.now c.args.count c.len.result c.args.value
    c.self.view_is refl n c.truncate.ensures.items c.in_ok-push-2.ensures.items c.requires
