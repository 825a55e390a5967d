use Rattle.fst_thread_trials.specs.Relay.{Same}
use Rattle.fst_thread_trials.proofs.threads.wait.Given as goal

abbrev pub invariant-loop-tried : goal.invariant-loop-tried
invariant-loop-tried l = Same l.fn.end l.end
