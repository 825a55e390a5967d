use Rattle.std.proofs.Common.{◌≡◌, ◌-◌, ◌∙◌, length, refl, sym, ap, arith, Some}
use Rattle.std.specs.Option.{option_flatten}
use Rattle.fst_terms.specs.Naming.{place_of}
use Rattle.fst_locals.proofs.LevelLaws.{numbered, not_numbered, length_names}
use Rattle.fst_locals.proofs.locals.Locals.number_of.Goals as goal

pub overflow_sub-result : goal.overflow_sub-result
overflow_sub-result c =
    let looked = sym (c.flatten.ensures ∙ ap option_flatten (c.copied.ensures ∙ c.get.ensures.value)) ∙ c.in_ok-level.was in
    let lt = (numbered _ _ (λ k. refl) _ _ c.self.invariant _ looked).0 in
    omega arith

pub overflow_sub-result-2 : goal.overflow_sub-result-2
overflow_sub-result-2 c =
    let looked = sym (c.flatten.ensures ∙ ap option_flatten (c.copied.ensures ∙ c.get.ensures.value)) ∙ c.in_ok-level.was in
    let lt = (numbered _ _ (λ k. refl) _ _ c.self.invariant _ looked).0 in
    omega arith

pub returns-clause-number : goal.returns-clause-number
returns-clause-number c =
    let inside = c.self.inside in
    let looked = sym (c.flatten.ensures ∙ ap option_flatten (c.copied.ensures ∙ c.get.ensures.value)) ∙ c.in_ok-level.was in
    let there = (numbered _ c.as_slice.result.now
    (λ k. refl) inside.levels.entries inside.order.items c.self.invariant c.in_ok-level.level looked).1 in
    let many : c.len.result ≡ length inside.order.items = omega arith in
    ap (λ n. Some (n - 1 - c.in_ok-level.level)) many ∙ sym there
    ∙ (λ i. place_of (c.self.view_is i) (c.as_slice.ensures.bytes i))

pub returns-clause-within : goal.returns-clause-within
returns-clause-within c =
    let inside = c.self.inside in
    let looked = sym (c.flatten.ensures ∙ ap option_flatten (c.copied.ensures ∙ c.get.ensures.value)) ∙ c.in_ok-level.was in
    let lt = (numbered _ _ (λ k. refl) _ _ c.self.invariant _ looked).0 in
    let many : length c.args.self.now ≡ length inside.order.items = ap length (sym c.self.view_is)
    ∙ length_names inside.levels.entries inside.order.items in
    omega arith

pub returns-in_err-level-clause-number : goal.returns-in_err-level-clause-number
returns-in_err-level-clause-number c =
    let inside = c.self.inside in
    let looked = sym (c.flatten.ensures ∙ ap option_flatten (c.copied.ensures ∙ c.get.ensures.value)) ∙ c.in_err-level.was in
    let none = not_numbered _ c.as_slice.result.now
    (λ k. refl) inside.levels.entries inside.order.items c.self.invariant looked in
    rw c.from_residual.ensures (sym none ∙ (λ i. place_of (c.self.view_is i) (c.as_slice.ensures.bytes i)))
