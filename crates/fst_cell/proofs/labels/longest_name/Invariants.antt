use Rattle.std.proofs.Common.{ℕ, ◌<◌, ◌≤◌, length}
use Rattle.std.specs.Prelude.{slice_index_or}
use Rattle.fst_types.specs.declared.ty.Branch.{Branch as Named}
use Rattle.fst_cell.proofs.labels.longest_name.Given as goal

abbrev pub invariant-loop-branch : goal.invariant-loop-branch
invariant-loop-branch l = (k : ℕ) (d : Named) → k < l.branch-index → length (slice_index_or l.branches k d).label ≤ l.longest
