use Rattle.std.proofs.Common.{◌+◌, ◌-◌, ◌≤◌}
use Rattle.fst_buffered.specs.KeptOf.{kept_of}
use Rattle.fst_buffered.specs.Running.{IsKept}
use Rattle.fst_buffered.proofs.run.run_buffered.Given as goal

abbrev pub invariant-loop-config : goal.invariant-loop-config
invariant-loop-config l = record {
  kept : IsKept l.code l.capacity l.config.events (kept_of l.config);
  most : l.config.events ≤ l.steps + 1;
}

abbrev pub decreases-loop-config : goal.decreases-loop-config
decreases-loop-config l = l.steps + 1 - l.config.events
