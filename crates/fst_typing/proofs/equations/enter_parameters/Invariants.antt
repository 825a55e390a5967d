use Rattle.fst_terms.specs.CoreTree.{core_height}
use Rattle.fst_derivations.specs.Parts.{IsFormed}
use Rattle.fst_premises.specs.Parameters.{AreEntered}
use Rattle.fst_premises.specs.Scenes.{check_in, IsReady}
use Rattle.fst_typing.proofs.equations.enter_parameters.Given as goal

abbrev pub decreases-loop-parameter : goal.decreases-loop-parameter
decreases-loop-parameter l = core_height l.body

abbrev pub invariant-loop-parameter : goal.invariant-loop-parameter
invariant-loop-parameter l = record {
  entered : AreEntered (check_in l.scene) l.term l.wanted l.fn.context l.parameters.items l.body l.to l.context;
  ready : IsReady (check_in l.scene) l.body l.context.variables;
  formed : IsFormed l.scene.vars.now l.to;
}
