use Rattle.std.proofs.Common.{◌+◌, ◌-◌}
use Rattle.fst_process.specs.KeptOf.{kept_of}
use Rattle.fst_process.specs.Marking.{marks_in}
use Rattle.fst_process.proofs.MarkedRuns.{MarksTo}
use Rattle.fst_process.proofs.marking.run_marked.Given as goal

abbrev pub invariant-loop-config : goal.invariant-loop-config
invariant-loop-config l =
    MarksTo l.code l.fn.config.events (kept_of l.fn.config) l.config.events (kept_of l.config) (marks_in l.marks.entries)

abbrev pub decreases-loop-config : goal.decreases-loop-config
decreases-loop-config l = l.steps + 1 - l.config.events
