use Rattle.std.proofs.Common.{◌∙◌, ◌<◌, ◌≤◌, ◌++◌, ◌∷◌, [], length, sym, arith}
use Rattle.std.proofs.lemmas.List.{take_all}
use Rattle.fst_code.proofs.ArmLaws.{take_next}
use Rattle.fst_code.proofs.generating.type_copies.Goals as goal

pub loop-ty-preserved : goal.loop-ty-preserved
loop-ty-preserved c =
    let ts = c.args.types.now in let n = c.loop-ty.ty-index in let t = c.ty-item.result in
    let lt : n < length ts = omega arith in
    c.in_ok-push.ensures.items ∙ (λ i. c.loop-ty.invariant i ++ c.in_ok-copy.ensures i ∷ [])
    ∙ sym (take_next ts n t lt c.ty-item.is)

pub returns : goal.returns
returns c =
    let ts = c.args.types.now in let n = c.loop-ty.ty-index in
    let past : length ts ≤ n = omega arith in
    c.loop-ty.invariant ∙ take_all n ts past
