use Rattle.fst_premises.specs.Scenes.{check_in}
use Rattle.fst_premises.proofs.Arguments.{ArgumentsSoFar}
use Rattle.fst_premises.proofs.leaves.arguments.Given as goal

abbrev pub invariant-loop-i : goal.invariant-loop-i
invariant-loop-i l = ArgumentsSoFar (check_in l.scene) l.ks l.kinds l.i l.args.items
