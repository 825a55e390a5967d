use Rattle.std.proofs.Common.{◌≡◌, None, length}
use Rattle.fst_thread_trials.proofs.threads.send_all.Given as goal

abbrev pub invariant-loop-number : goal.invariant-loop-number
invariant-loop-number l = record {
  cell : l.end.cell ≡ l.fn.end.cell;
  side : l.end.knows.side ≡ l.fn.end.knows.side;
  count : length l.end.knows.history ≡ l.number;
  idle : l.end.knows.offer ≡ None;
}
