use Rattle.std.proofs.Common.{◌≡◌, ◌+◌, ◌-◌, ◌≤◌, vec_len, vec_capacity}
use Rattle.fst_worker.specs.Passes.{PassesTo}
use Rattle.fst_worker.proofs.shares.Share.pass.Given as goal

abbrev pub invariant-loop-i : goal.invariant-loop-i
invariant-loop-i g l = record {
  passes : PassesTo l.fn.code l.fn.steps l.walk.kept l.i l.walk.halted l.fn.self l.self;
  kept : l.walk.kept ≤ l.i;
  len : vec_len l.self.tasks ≡ vec_len l.fn.self.tasks;
  room : vec_len l.self.ended + (l.i - l.walk.kept) ≤ vec_capacity l.self.ended;
}
