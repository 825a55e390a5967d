use Rattle.std.proofs.Common.{◌∙◌, slice_get, sym, ap}
use Rattle.fst_derivations.specs.Deriv.{deriv_of}
use Rattle.fst_derivations.specs.Modules.{surroundings}
use Rattle.fst_fits.specs.Tests.{same_tree}
use Rattle.fst_rules.specs.Walks.{walk_of}
use Rattle.fst_rules.proofs.HoldLaws.{global_derived, wrong_type}
use Rattle.fst_rules.proofs.holding.global_holds.Goals as goal

pub returns-then-not-is_same : goal.returns-then-not-is_same
returns-then-not-is_same c =
    let t = c.in-Some.signature.now in
    wrong_type c.args.m.now c.args.global.now (deriv_of c.args.derivation.now) t c.is_same.result
    (c.in-Some.ensures ∙ ap (λ z. slice_get z c.args.global.now.signature) c.deref.ensures.value)
    (c.is_same.ensures ∙ ap (λ z. same_tree z t) c.type_of.ensures) c.if-not-is_same.true

pub returns : goal.returns
returns c =
    let d = deriv_of c.args.derivation.now in
    let t = c.in-Some.signature.now in
    global_derived c.args.m.now c.args.global.now d t c.in_ok-holds.holds c.is_same.result c.new-context.result
    c.follows.new.context
    (c.in-Some.ensures ∙ ap (λ z. slice_get z c.args.global.now.signature) c.deref.ensures.value)
    (c.is_same.ensures ∙ ap (λ z. same_tree z t) c.type_of.ensures) c.if-not-is_same.false
    c.new-context.ensures (ap (λ z. walk_of (surroundings c.args.m.now z) c.args.global.now.body d c.new-context.result)
    (sym c.deref-2.ensures.value) ∙ c.in_ok-holds.ensures)
