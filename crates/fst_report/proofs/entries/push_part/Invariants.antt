use Rattle.std.proofs.Common.{◌≡◌, ◌++◌, drop}
use Rattle.std.specs.String.{string_bytes}
use Rattle.fst_report.specs.ReportTexts.{behind_all, entries_text}
use Rattle.fst_report.proofs.entries.push_part.Given as goal

abbrev pub invariant-loop-entry : goal.invariant-loop-entry
invariant-loop-entry l =
    (string_bytes l.text ++ entries_text l.residual
    (drop l.entry-index l.entries) ≡ string_bytes l.initial.text ++ entries_text l.initial.residual l.entries) ×
    (behind_all l.residual (drop l.entry-index l.entries) ≡ behind_all l.initial.residual l.entries)
