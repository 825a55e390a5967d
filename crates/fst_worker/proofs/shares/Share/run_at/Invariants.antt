use Rattle.std.proofs.Common.{◌≡◌, ◌+◌, ◌-◌, ◌≤◌, vec_len, vec_capacity}
use Rattle.fst_safety.specs.Threads.{Thread}
use Rattle.fst_worker.specs.Passes.{IsAt, Runs, clock_at}
use Rattle.fst_worker.proofs.shares.Share.run_at.Given as goal

abbrev pub invariant-loop-self : goal.invariant-loop-self
invariant-loop-self g l = record {
  runs : Runs l.fn.code (λ b c. (y : Thread) × IsAt l.i b c y) l.fn.self l.self;
  tasks : vec_len l.self.tasks ≡ vec_len l.fn.self.tasks;
  ended : vec_len l.self.ended ≡ vec_len l.fn.self.ended;
  room : vec_capacity l.fn.self.ended ≤ vec_capacity l.self.ended;
}

abbrev pub decreases-loop-self : goal.decreases-loop-self
decreases-loop-self g l = (l.steps + 1) - clock_at l.self.tasks.items l.i
