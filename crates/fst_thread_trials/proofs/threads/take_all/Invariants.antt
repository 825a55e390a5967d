use Rattle.std.proofs.Common.{◌≡◌, length}
use Rattle.fst_thread_trials.proofs.threads.take_all.Given as goal

abbrev pub invariant-loop-expected : goal.invariant-loop-expected
invariant-loop-expected l = record {
  cell : l.end.cell ≡ l.fn.end.cell;
  side : l.end.knows.side ≡ l.fn.end.knows.side;
  count : length l.end.knows.history ≡ l.expected;
}
