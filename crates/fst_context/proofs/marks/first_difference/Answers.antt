use Rattle.std.proofs.Common.{◌≡◌, ◌∙◌, ◌+◌, ◌-◌, ◌<◌, sym, Bool, true, false, not, length, get_or, arith}
use mathlib.Core.Bool.{beq}
use mathlib.Core.List.{reverse}
use Rattle.fst_context.proofs.Places.{mark_place}
use Rattle.fst_context.proofs.MarkLaws.{outer_marks, all_marks}
use Rattle.fst_context.proofs.marks.first_difference.Goals as goal

unlike : (a b : Bool) → not (beq a b) ≡ true → a ≡ b → ⊥
unlike true true h e = cc h
unlike true false h e = cc e
unlike false true h e = cc e
unlike false false h e = cc h

pub returns-then-marks-i-clause-differs : goal.returns-then-marks-i-clause-differs
returns-then-marks-i-clause-differs c =
    let bs = c.args.marks.now in
    let cs = c.args.others.now in
    let i = c.loop-i.i in
    let at : i + (length bs - 1 - i) + 1 ≡ length bs = omega (arith, c.loop-i-test.true) in
    λ h. unlike (get_or bs i false) (get_or cs i false) c.if-marks-i.true
    (sym (mark_place bs i (length bs - 1 - i) false at) ∙ h
    ∙ mark_place cs i (length bs - 1 - i) false (at ∙ c.requires.same))

pub returns-then-marks-i-clause-outermost : goal.returns-then-marks-i-clause-outermost
returns-then-marks-i-clause-outermost c = outer_marks c.args.marks.now c.args.others.now c.loop-i.i c.requires.same
    c.loop-i-test.true c.loop-i.invariant

pub returns-clause-none : goal.returns-clause-none
returns-clause-none c =
    all_marks c.args.marks.now c.args.others.now c.requires.same
    (λ k b d h. c.loop-i.invariant k b d (omega (arith, h, c.loop-i-test.false)))
