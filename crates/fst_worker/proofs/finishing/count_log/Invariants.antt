use Rattle.std.proofs.Common.{◌≡◌, ◌+◌, ◌≤◌, drop}
use Rattle.fst_worker.specs.Finishing.{alone_in}
use Rattle.fst_worker.proofs.finishing.count_log.Given as goal

abbrev pub invariant-loop-entry : goal.invariant-loop-entry
invariant-loop-entry l = record {
  left : l.count + alone_in (drop l.entry-index l.log) ≡ alone_in l.log;
  few : l.count ≤ l.entry-index;
}
