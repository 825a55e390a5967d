use Rattle.std.proofs.Common.{◌≡◌, ◌<◌, length}
use Rattle.std.specs.Prelude.{All}
use Rattle.fst_norms.proofs.estimate.uses_of.Given as goal

abbrev pub invariant-loop-at : goal.invariant-loop-at
invariant-loop-at l = record {
  len : length l.uses.items ≡ length l.g.rules.items;
  below : All (λ u. All (λ k. k < length l.pending) u.items) l.uses.items;
}
