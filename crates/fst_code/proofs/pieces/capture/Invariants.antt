use Rattle.std.proofs.Common.{List, drop}
use Rattle.fst_types.specs.declared.family.Family.{Family}
use Rattle.fst_code.specs.Marks.{marked}
use Rattle.fst_code.specs.Written.{Loads, compiled}
use Rattle.fst_code.proofs.pieces.capture.Given as goal

abbrev pub invariant-loop-i : goal.invariant-loop-i
invariant-loop-i l = (fs : List Family) → Loads (compiled fs l.fn.out) (compiled fs l.out) (drop l.i l.variables) (marked l.later)
