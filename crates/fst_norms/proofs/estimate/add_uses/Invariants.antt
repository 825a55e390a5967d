use Rattle.std.proofs.Common.{◌≡◌, ◌<◌, ℕ, length}
use Rattle.std.specs.Prelude.{All}
use Rattle.fst_norms.proofs.estimate.add_uses.Given as goal

abbrev pub invariant-loop-n : goal.invariant-loop-n
invariant-loop-n l = record {
  len : length l.uses.items ≡ length l.initial.uses.items;
  below : (m : ℕ) → l.at < m → All (λ u. All (λ k. k < m) u.items) l.initial.uses.items → All
      (λ u. All (λ k. k < m) u.items) l.uses.items;
}
