use Rattle.std.proofs.Common.{◌≡◌, ◌++◌, drop, map}
use Rattle.std.specs.Prelude.{codes}
use Rattle.std.specs.String.{string_bytes}
use Rattle.fst_type_print.specs.Texts.{label_text, separated_text}
use Rattle.fst_type_print.proofs.words.push_word.Given as goal

abbrev pub invariant-loop-label : goal.invariant-loop-label
invariant-loop-label l = string_bytes l.text ++ separated_text (codes " ")
    (map label_text (drop l.label-index l.others)) ≡ string_bytes l.initial.text ++ separated_text (codes " ")
    (map label_text l.others)
