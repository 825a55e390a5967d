use Rattle.std.proofs.Common.{◌≡◌, length}
use Rattle.std.specs.Prelude.{sum_by}
use Rattle.fst_norms.specs.Bounds.{IsSound, weight}
use Rattle.fst_norms.proofs.rounds.norms.Given as goal

abbrev pub invariant-loop : goal.invariant-loop
invariant-loop l = record {
  sound : IsSound l.g.rules.items l.bounds.items;
  len : length l.bounds.items ≡ length l.g.rules.items;
}

abbrev pub decreases-loop : goal.decreases-loop
decreases-loop l = sum_by weight l.bounds.items
