use Rattle.std.proofs.Common.{◌≡◌, ◌<◌, length}
use Rattle.std.specs.Prelude.{All}
use Rattle.fst_norms.specs.Pending.{IsPending, IsEstimate}
use Rattle.fst_norms.proofs.estimate.first_bounds.Given as goal

abbrev pub invariant-loop : goal.invariant-loop
invariant-loop l = record {
  len : length l.uses.items ≡ length l.g.rules.items;
  below : All (λ u. All (λ k. k < length l.pending.items) u.items) l.uses.items;
  pending : All (IsPending l.g.rules.items) l.pending.items;
  estimate : IsEstimate l.g.rules.items l.e;
}
