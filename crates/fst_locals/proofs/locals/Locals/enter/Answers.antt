use Rattle.std.proofs.Common.{◌≡◌, ◌∷◌, ◌∙◌, length, refl, ap, arith}
use Rattle.std.specs.Option.{option_flatten}
use Rattle.fst_locals.proofs.LevelLaws.{entered}
use Rattle.fst_locals.proofs.locals.Locals.enter.Goals as goal

pub invariant_of-self-2 : goal.invariant_of-self-2
invariant_of-self-2 c =
    let inside = c.self.inside in
    let level : c.len-level.result ≡ length inside.order.items = omega arith in
    let t = entered _ (λ a b. refl) c.in_ok-key.key inside.levels.entries inside.order.items
    (record { index = c.in_ok-index.index; hidden = c.flatten.result })
    c.len-level.result c.self.invariant level c.in_ok-index.ensures.index
    (c.flatten.ensures ∙ ap option_flatten c.in_ok-index.ensures.old) in
    rw (c.in_ok-index.ensures.entries, c.in_ok-push.ensures.items, c.reserve.ensures.items) t.0

pub returns-clause-entered : goal.returns-clause-entered
returns-clause-entered c =
    let inside = c.self.inside in
    let level : c.len-level.result ≡ length inside.order.items = omega arith in
    let t = entered _ (λ a b. refl) c.in_ok-key.key inside.levels.entries inside.order.items
    (record { index = c.in_ok-index.index; hidden = c.flatten.result })
    c.len-level.result c.self.invariant level c.in_ok-index.ensures.index
    (c.flatten.ensures ∙ ap option_flatten c.in_ok-index.ensures.old) in
    let is = c.in_ok-key.ensures.items ∙ c.as_slice.ensures.bytes in
    rw (c.in_ok-index.ensures.entries, c.in_ok-push.ensures.items, c.reserve.ensures.items) (t.1 ∙ (λ i. is i ∷ c.self.view_is i))
