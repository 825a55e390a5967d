use Rattle.std.proofs.Common.{◌≡◌, ◌++◌}
use Rattle.std.specs.Vec.Iter.{into_iter_items}
use Rattle.fst_buffered.specs.Channels.{entries}
use Rattle.fst_buffered.proofs.report.entries.Given as goal

abbrev pub invariant-loop-message : goal.invariant-loop-message
invariant-loop-message l = l.all.items ++ entries (into_iter_items l.message-iterator) ≡ entries l.fn.messages.items
