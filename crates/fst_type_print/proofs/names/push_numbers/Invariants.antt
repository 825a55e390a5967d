use Rattle.std.proofs.Common.{◌≡◌, ◌++◌, drop, map, decimal}
use Rattle.std.specs.Prelude.{codes}
use Rattle.std.specs.String.{string_bytes}
use Rattle.fst_type_print.specs.Texts.{separated_text}
use Rattle.fst_type_print.proofs.names.push_numbers.Given as goal

abbrev pub invariant-loop-number : goal.invariant-loop-number
invariant-loop-number l = string_bytes l.text ++ separated_text (codes ".")
    (map decimal (drop l.number-index l.others)) ≡ string_bytes l.initial.text ++ separated_text (codes ".")
    (map decimal l.others)
