use Rattle.std.proofs.Common.{◌≡◌, ◌++◌, drop}
use Rattle.std.specs.String.{string_bytes}
use Rattle.fst_report.specs.BufferedTexts.{AreWithin, channels_text}
use Rattle.fst_report.proofs.buffered.push_channels.Given as goal

abbrev pub invariant-loop-channel : goal.invariant-loop-channel
invariant-loop-channel l =
    (string_bytes l.text ++ channels_text l.families (drop l.channel-index l.channels)
    (drop l.channel-index l.unread) ≡ string_bytes l.initial.text ++ channels_text l.families l.channels l.unread) ×
    AreWithin (drop l.channel-index l.channels) (drop l.channel-index l.unread) × (l.index ≡ l.channel-index)
