use Rattle.std.proofs.Common.{◌∙◌, ◌<◌, length, refl, ap, arith}
use Rattle.fst_value.specs.Parts.{function_form}
use Rattle.fst_value.proofs.Splitting.{is_call}
use Rattle.fst_value.proofs.split.is_call.Goals as goal

pub returns : goal.returns
returns c =
    let lt : 1 < length c.args.values.now = omega (arith, c.if-values-lt2.false) in
    c.is_function.ensures
    ∙ ap function_form c.form.ensures
    ∙ is_call c.args.values.now c.index-values-values.result _ lt refl c.index-values-values.is
