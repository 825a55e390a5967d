use Rattle.std.proofs.Common.{◌≡◌, ◌++◌, drop}
use Rattle.std.specs.List.{flat_map}
use Rattle.std.specs.String.{string_bytes}
use Rattle.fst_report.specs.ReportTexts.{history_text}
use Rattle.fst_report.proofs.report.push_channels.Given as goal

abbrev pub invariant-loop-channel : goal.invariant-loop-channel
invariant-loop-channel l = string_bytes l.text ++ flat_map (history_text l.families)
    (drop l.channel-index l.channels) ≡ string_bytes l.initial.text ++ flat_map (history_text l.families) l.channels
