use Rattle.std.proofs.Common.{◌≡◌, ◌+◌, ◌++◌, drop}
use Rattle.std.specs.Prelude.{codes}
use Rattle.std.specs.String.{string_bytes}
use Rattle.fst_type_print.specs.Texts.{separated_text, variables_text}
use Rattle.fst_type_print.proofs.questions.push_others.Given as goal

abbrev pub invariant-loop-k : goal.invariant-loop-k
invariant-loop-k l = string_bytes l.text ++ separated_text (codes ", ")
    (variables_text (l.k + 1) (drop l.k l.others)) ≡ string_bytes l.initial.text ++ separated_text (codes ", ")
    (variables_text 1 l.others)
