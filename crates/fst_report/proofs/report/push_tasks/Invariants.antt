use Rattle.std.proofs.Common.{◌≡◌, ◌++◌, drop}
use Rattle.std.specs.List.{flat_map}
use Rattle.std.specs.String.{string_bytes}
use Rattle.fst_report.specs.ReportTexts.{waiting_text}
use Rattle.fst_report.proofs.report.push_tasks.Given as goal

abbrev pub invariant-loop-task : goal.invariant-loop-task
invariant-loop-task l = string_bytes l.text ++ flat_map waiting_text
    (drop l.task-index l.tasks) ≡ string_bytes l.initial.text ++ flat_map waiting_text l.tasks
