use Rattle.std.proofs.Common.{◌+◌, ◌-◌}
use Rattle.fst_process.specs.KeptOf.{kept_of}
use Rattle.fst_process.specs.Runs.{RunsTo}
use Rattle.fst_process.proofs.run.run_from.Given as goal

abbrev pub invariant-loop-config : goal.invariant-loop-config
invariant-loop-config l = RunsTo l.code l.fn.config.events (kept_of l.fn.config) l.config.events (kept_of l.config)

abbrev pub decreases-loop-config : goal.decreases-loop-config
decreases-loop-config l = l.steps + 1 - l.config.events
