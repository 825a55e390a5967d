use Rattle.std.proofs.Common.{ℕ, ◌+◌, drop}
use Rattle.fst_worker.specs.Finishing.{IsUpTo, entries_of}
use Rattle.fst_worker.proofs.Counted.{IsLeftUpTo}
use Rattle.fst_worker.proofs.finishing.count_entries.Given as goal

abbrev pub invariant-loop-channel : goal.invariant-loop-channel
invariant-loop-channel l = (n : ℕ) → IsUpTo l.steps n l.fn.alone →
    IsLeftUpTo l.steps (n + entries_of l.closed) (entries_of (drop l.channel-index l.closed)) l.count
