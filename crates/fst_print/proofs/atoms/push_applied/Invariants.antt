use Rattle.std.proofs.Common.{◌≡◌, ◌++◌, drop}
use Rattle.std.specs.String.{string_bytes}
use Rattle.fst_print.specs.ModuleTexts.{applied_text}
use Rattle.fst_print.proofs.atoms.push_applied.Given as goal

abbrev pub invariant-loop-t : goal.invariant-loop-t
invariant-loop-t l = string_bytes l.text ++ applied_text
    (drop l.t-index l.types) ≡ string_bytes l.initial.text ++ applied_text l.types
