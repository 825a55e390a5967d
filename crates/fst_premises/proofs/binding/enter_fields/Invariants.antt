use Rattle.fst_premises.specs.Scenes.{check_in}
use Rattle.fst_premises.proofs.Entering.{EnteredSoFar}
use Rattle.fst_premises.proofs.binding.enter_fields.Given as goal

abbrev pub invariant-loop-i : goal.invariant-loop-i
invariant-loop-i l = EnteredSoFar (check_in l.scene) l.binders l.fields l.i l.fn.context l.context
