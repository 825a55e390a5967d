use Rattle.std.proofs.Common.{◌≡◌, length}
use Rattle.std.specs.Prelude.{All}
use Rattle.fst_norms.specs.Pending.{IsPending, IsEstimate}
use Rattle.fst_norms.proofs.estimate.follow.Given as goal

abbrev pub invariant-loop-at : goal.invariant-loop-at
invariant-loop-at l = record {
  len : length l.pending.items ≡ length l.initial.pending.items;
  pending : All (IsPending l.g.rules.items) l.pending.items;
  estimate : IsEstimate l.g.rules.items l.e;
}
