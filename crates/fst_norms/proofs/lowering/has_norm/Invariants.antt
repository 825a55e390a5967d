use Rattle.std.proofs.Common.{◌≡◌, drop}
use Rattle.fst_norms.specs.Lowering.{has_norm}
use Rattle.fst_norms.proofs.lowering.has_norm.Given as goal

abbrev pub invariant-loop-n : goal.invariant-loop-n
invariant-loop-n l = has_norm l.norms l.rest (drop l.n-index l.word) ≡ has_norm l.norms l.fn.norm l.word
