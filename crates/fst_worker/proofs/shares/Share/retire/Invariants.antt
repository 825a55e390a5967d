use Rattle.std.proofs.Common.{◌+◌, ◌-◌, ◌≤◌, vec_len, vec_capacity}
use Rattle.fst_worker.specs.Passes.{HasSameMarks, RetiresTo}
use Rattle.fst_worker.proofs.shares.Share.retire.Given as goal

abbrev pub invariant-loop-self : goal.invariant-loop-self
invariant-loop-self l = record {
  kept : l.kept ≤ vec_len l.self.tasks;
  room : vec_len l.self.ended + (vec_len l.self.tasks - l.kept) ≤ vec_capacity l.self.ended;
  retires : RetiresTo l.kept (vec_len l.self.tasks) l.fn.self l.self;
  same : HasSameMarks l.fn.self l.self;
}

abbrev pub decreases-loop-self : goal.decreases-loop-self
decreases-loop-self l = vec_len l.self.tasks - l.kept
