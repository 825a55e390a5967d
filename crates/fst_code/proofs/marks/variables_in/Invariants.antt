use Rattle.fst_code.specs.Marks.{marked}
use Rattle.fst_code.proofs.ListsLaws.{SoFar}
use Rattle.fst_code.proofs.marks.variables_in.Given as goal

abbrev pub invariant-loop-k : goal.invariant-loop-k
invariant-loop-k l = SoFar l.found.items (marked l.marks) l.k
