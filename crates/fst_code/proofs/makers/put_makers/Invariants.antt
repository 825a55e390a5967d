use Rattle.fst_code.proofs.MakerLaws.{PutSoFar}
use Rattle.fst_code.proofs.makers.put_makers.Given as goal

abbrev pub invariant-loop-n : goal.invariant-loop-n
invariant-loop-n l = PutSoFar l.makers l.n l.fn.places.entries l.places.entries
