use Rattle.std.proofs.Common.{◌≡◌, ◌+◌, ◌≤◌, drop, min}
use Rattle.fst_base.specs.Limits.{greatest_norm}
use Rattle.fst_norms.specs.Bounds.{all_bounded, total}
use Rattle.fst_norms.proofs.bounds.word_bound.Given as goal

abbrev pub invariant-loop-n : goal.invariant-loop-n
invariant-loop-n l = record {
  normed : all_bounded l.bounds (drop l.n-index l.word) ≡ all_bounded l.bounds l.word;
  total : min (l.total + total l.bounds (drop l.n-index l.word)) greatest_norm ≡ min (total l.bounds l.word) greatest_norm;
  capped : l.total ≤ greatest_norm;
}
