use Rattle.std.proofs.Common.{◌≡◌, ◌++◌, drop, map}
use Rattle.std.specs.Prelude.{codes}
use Rattle.std.specs.String.{string_bytes}
use Rattle.fst_print.specs.ModuleTexts.{maker_text}
use Rattle.fst_type_print.specs.Texts.{separated_text}
use Rattle.fst_terms.specs.ModuleTree.{maker}
use Rattle.fst_print.proofs.modules.push_makers.Given as goal

abbrev pub invariant-loop-constructor : goal.invariant-loop-constructor
invariant-loop-constructor l = string_bytes l.text ++ separated_text (codes " | ")
    (map maker_text (map maker (drop l.constructor-index l.others))) ≡ string_bytes l.initial.text ++ separated_text (codes " | ")
    (map maker_text (map maker l.others))
