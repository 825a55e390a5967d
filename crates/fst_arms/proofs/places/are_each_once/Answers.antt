use Rattle.std.proofs.Common.{◌≡◌, ◌∙◌, ℕ, List, refl, sym, ap, arith, is_some, None, true, false}
use Rattle.std.specs.Prelude.{if◌then◌else◌}
use Rattle.std.specs.Str.{bytes_eq}
use Rattle.fst_arms.specs.Places.{found}
use Rattle.fst_arms.proofs.PlaceLaws.{found_after}
use Rattle.fst_arms.proofs.Meeting.{none_met, arm_met, arm_refused, arms_met}
use Rattle.fst_arms.proofs.places.are_each_once.Goals as goal

pub loop-arm-init : goal.loop-arm-init
loop-arm-init c = λ wanted places. none_met wanted c.args.places.entries places

pub loop-arm-preserved : goal.loop-arm-preserved
loop-arm-preserved c = λ wanted places.
    let b = c.arm-item.result in
    let old = c.loop-arm.places.entries in
    let new = c.swap_remove.new.self.entries in
    let label = c.as_slice.ensures.bytes in
    let there : is_some (found old b.label) ≡ true = ap (λ y. is_some (found old y)) (sym label)
    ∙ ap is_some (sym c.swap_remove.ensures.value) ∙ c.if-is_none.ensures in
    let after : (x : List ℕ) → found new x ≡ (if bytes_eq x b.label then None else found old x) = λ x.
    found_after _ (λ k m. refl) _ c.as_slice.result.now
    (λ k. refl) old new None c.swap_remove.ensures.updates.1 c.swap_remove.ensures.updates.3 x
    ∙ ap (λ y. if bytes_eq x y then None else found old x) label in
    arm_met wanted c.args.arms.now c.loop-arm.arm-index b old new (c.loop-arm.invariant wanted places)
    (omega arith) c.arm-item.is there after

pub returns-then-is_none : goal.returns-then-is_none
returns-then-is_none c = λ names places.
    let b = c.arm-item.result in
    let old = c.loop-arm.places.entries in
    let none : is_some (found old b.label) ≡ false = ap (λ y. is_some (found old y)) (sym c.as_slice.ensures.bytes)
    ∙ ap is_some (sym c.swap_remove.ensures.value) ∙ c.if-is_none.ensures in (
      λ h. absurd (cc h),
      λ each. absurd (arm_refused names c.args.arms.now c.loop-arm.arm-index b old (c.loop-arm.invariant names places)
          (omega arith) c.arm-item.is none each),
    )

pub returns : goal.returns
returns c = λ names places.
    let t = arms_met names c.args.arms.now c.loop-arm.arm-index c.loop-arm.places.entries (c.loop-arm.invariant names places)
    (omega arith) in
    (λ h. t.0 (c.is_empty.ensures.0 h), λ each. c.is_empty.ensures.1 (t.1 each))
