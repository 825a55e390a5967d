use Rattle.std.proofs.Common.{◌<◌, ℕ}
use Rattle.fst_base.specs.Limits.{greatest_norm}
use Rattle.fst_norms.specs.Bounds.{bound_at, weight}
use Rattle.fst_norms.proofs.lowering.all_normed.Given as goal

abbrev pub invariant-loop-norm : goal.invariant-loop-norm
invariant-loop-norm l = (k : ℕ) → k < l.norm-index → weight (bound_at l.norms k) < greatest_norm
