use Rattle.std.proofs.Common.{◌≡◌, ◌∙◌, ◌+◌, map, sym, ap, subst, arith, None, Some}
use Rattle.fst_arms.specs.Places.{found}
use Rattle.fst_arms.proofs.Meeting.{arm_unknown}
use Rattle.fst_arms.proofs.Numbers.{AreNumbered, one_numbered, all_numbered}
use Rattle.fst_arms.proofs.PlaceLaws.{maker_found}
use Rattle.fst_arms.proofs.arms.maker_numbers.Goals as goal

pub overflow_cast-n : goal.overflow_cast-n
overflow_cast-n c =
    let es = c.in_ok-places.places.entries in
    let at : found es c.arm-item.result.label ≡ Some c.in-Some.n.now = ap (found es) (sym c.as_slice.ensures.bytes)
    ∙ sym c.in-Some.ensures.value in
    omega (arith, (maker_found c.args.makers.now es c.arm-item.result.label c.in-Some.n.now c.in_ok-places.ensures at).0)

pub returns-in-None-clause-each_once : goal.returns-in-None-clause-each_once
returns-in-None-clause-each_once c =
    let es = c.in_ok-places.places.entries in
    let b = c.arm-item.result in
    let none : found es b.label ≡ None = ap (found es) (sym c.as_slice.ensures.bytes) ∙ sym c.in-None.ensures.value in (
      λ h. absurd (cc h),
      λ each. absurd (arm_unknown (map (λ o. o.name) c.args.makers.now) c.args.arms.now c.loop-arm.arm-index b es
          c.in_ok-places.ensures (omega arith) c.arm-item.is none each),
    )

pub loop-arm-preserved : goal.loop-arm-preserved
loop-arm-preserved c =
    let makers = c.args.makers.now in
    let b = c.arm-item.result in
    let es = c.in_ok-places.places.entries in
    let at : found es b.label ≡ Some c.in-Some.n.now = ap (found es) (sym c.as_slice.ensures.bytes)
    ∙ sym c.in-Some.ensures.value in
    let named = maker_found makers es b.label c.in-Some.n.now c.in_ok-places.ensures at in
    subst (AreNumbered makers c.args.arms.now (c.loop-arm.arm-index + 1)) (sym c.in_ok-push-in-Some.ensures.items)
    (one_numbered makers c.args.arms.now c.loop-arm.arm-index c.loop-arm.numbers.items b c.in-Some.n.now c.loop-arm.invariant
    c.arm-item.is named.0 named.1)

pub returns-then-are_each_once-clause-numbers : goal.returns-then-are_each_once-clause-numbers
returns-then-are_each_once-clause-numbers c =
    all_numbered c.args.makers.now c.args.arms.now c.loop-arm.arm-index c.loop-arm.numbers.items c.loop-arm.invariant
    (omega arith)
