use Rattle.std.proofs.Common.{◌<◌, ℕ, slice_index_or}
use Rattle.fst_basis.specs.declared.proof.Pair.{Pair}
use Rattle.fst_basis.specs.Basis.{IsPairBelow}
use Rattle.fst_basis.proofs.checking.are_below.Given as goal

abbrev pub invariant-loop-b : goal.invariant-loop-b
invariant-loop-b l = (k : ℕ) (d : Pair) → k < l.b-index → IsPairBelow l.count (slice_index_or l.basis k d)
