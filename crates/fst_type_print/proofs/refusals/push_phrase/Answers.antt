use Rattle.fst_type_print.proofs.refusals.push_phrase.Goals as goal

pub returns-in-NotPrintable : goal.returns-in-NotPrintable
returns-in-NotPrintable c =
    rw c.in-NotPrintable.is (rw (← c.as_str-in-NotPrintable.ensures.value) c.push_cause-in-NotPrintable.ensures)
