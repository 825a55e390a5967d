use Rattle.std.proofs.Common.{◌≡◌, ◌++◌, drop}
use Rattle.std.specs.Prelude.{codes}
use Rattle.std.specs.List.{flat_map}
use Rattle.std.specs.String.{string_bytes}
use Rattle.fst_type_print.specs.WrittenTexts.{atom_text}
use Rattle.fst_print.proofs.modules.push_fields.Given as goal

abbrev pub invariant-loop-field : goal.invariant-loop-field
invariant-loop-field l = string_bytes l.text ++ flat_map
    (λ t. codes " " ++ atom_text t) (drop l.field-index l.fields) ≡ string_bytes l.initial.text ++ flat_map
    (λ t. codes " " ++ atom_text t) l.fields
