use Rattle.std.proofs.Common.{◌≡◌, ◌++◌, drop, map}
use Rattle.std.specs.Prelude.{codes}
use Rattle.std.specs.String.{string_bytes}
use Rattle.fst_print.specs.ModuleTexts.{binder_kind_text}
use Rattle.fst_type_print.specs.Texts.{separated_text}
use Rattle.fst_print.proofs.modules.push_later_binders.Given as goal

abbrev pub invariant-loop-binder : goal.invariant-loop-binder
invariant-loop-binder l = string_bytes l.text ++ separated_text (codes ", ")
    (map binder_kind_text (drop l.binder-index l.binders)) ≡ string_bytes l.initial.text ++ separated_text (codes ", ")
    (map binder_kind_text l.binders)
