use Rattle.std.proofs.Common.{◌≡◌, ◌+◌, ◌<◌, ◌≤◌, ℕ, length, cond, false}
use Rattle.std.specs.Prelude.{sum_by}
use Rattle.fst_norms.specs.Bounds.{IsSound, IsSettledAt, weight}
use Rattle.fst_norms.proofs.rounds.improve.Given as goal

abbrev pub invariant-loop-n : goal.invariant-loop-n
invariant-loop-n l = record {
  len : length l.bounds.items ≡ length l.g.rules.items;
  sound : IsSound l.g.rules.items l.bounds.items;
  lower : sum_by weight l.bounds.items + cond l.changed 1 0 ≤ sum_by weight l.initial.bounds.items;
  settled : l.changed ≡ false → (n : ℕ) → n < l.n → IsSettledAt l.g.rules.items l.bounds.items n;
}
