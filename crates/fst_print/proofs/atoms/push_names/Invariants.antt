use Rattle.std.proofs.Common.{◌≡◌, ◌++◌, drop}
use Rattle.std.specs.String.{string_bytes}
use Rattle.fst_print.specs.ModuleTexts.{names_text}
use Rattle.fst_print.proofs.atoms.push_names.Given as goal

abbrev pub invariant-loop-binder : goal.invariant-loop-binder
invariant-loop-binder l = string_bytes l.text ++ names_text
    (drop l.binder-index l.names) ≡ string_bytes l.initial.text ++ names_text l.names
