use Rattle.std.proofs.Common.{◌∙◌, length, sym, arith}
use Rattle.fst_options.proofs.SettingLaws.{not_empty, parsed}
use Rattle.fst_options.proofs.settings.number_of.Goals as goal

pub returns-in-Err : goal.returns-in-Err
returns-in-Err c =
    let ok = parsed c.args.digits.now c.parse.result c.parse.ensures.value.0 (sym c.is_digits.ensures ∙ c.if-not-is_digits.false)
    (not_empty (length c.args.digits.now) c.is_empty.result c.is_empty.ensures c.if-is_empty.false) (omega arith) in
    absurd (cc (sym c.in-Err.is ∙ ok))
