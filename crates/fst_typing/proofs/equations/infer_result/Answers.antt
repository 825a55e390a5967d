use Rattle.std.proofs.Common.{◌≡◌}
use Rattle.fst_derivations.specs.Deriv.{convert, deriv_of, type_of}
use Rattle.fst_derivations.specs.Modules.{HasNoParameter}
use Rattle.fst_typing.specs.Equations.{IsEquationTyped}
use Rattle.fst_premises.specs.Scenes.{check_in}
use Rattle.fst_typing.specs.Typed.{IsKnown}
use Rattle.fst_typing.proofs.EquationLaws.{both_ok, result_typed}
use Rattle.fst_typing.proofs.equations.infer_result.Goals as goal

pub returns-clause-typed : goal.returns-clause-typed
returns-clause-typed c =
    let found = deriv_of c.in_ok-found.found in
    both_ok c.compared.result
    (λ h. deriv_of h ≡ convert (type_of found) c.args.wanted.now found)
    (λ h. IsKnown (check_in c.args.scene) (type_of found) c.args.wanted.now)
    (λ h. HasNoParameter (check_in c.args.scene).surroundings.types c.args.term.now c.args.wanted.now →
    IsEquationTyped (check_in c.args.scene) c.args.wanted.now c.args.context.now c.infer.new.context c.args.term.now
    (deriv_of h))
    (λ h is known none. result_typed (check_in c.args.scene) c.args.term.now c.args.wanted.now c.args.context.now
    c.infer.new.context found (deriv_of h) none c.in_ok-found.ensures.typed known is)
    c.compared.ensures.turned c.compared.ensures.known
