use Rattle.std.proofs.Common.{length}
use Rattle.fst_types.specs.Tree.{Tree}
use Rattle.fst_terms.specs.CoreTree.{CoreTree}
use Rattle.fst_context.specs.Scope.{Scope}
use Rattle.fst_derivations.specs.Deriv.{deriv_of}
use Rattle.fst_premises.specs.Parameters.{AreEntered}
use Rattle.fst_typing.specs.Equations.{IsEquationTyped}
use Rattle.fst_premises.specs.Scenes.{check_in}
use Rattle.fst_typing.proofs.equations.infer_equation.Given as goal

abbrev pub decreases-loop-parameter : goal.decreases-loop-parameter
decreases-loop-parameter l = length l.entered.parameters.items

abbrev pub invariant-loop-parameter : goal.invariant-loop-parameter
invariant-loop-parameter l =
    (e : CoreTree) × (t : Tree) × (s : Scope) × AreEntered
    (check_in l.scene) l.term l.wanted l.fn.context l.entered.parameters.items e t s ×
    IsEquationTyped (check_in l.scene) t s l.context e (deriv_of l.found)
