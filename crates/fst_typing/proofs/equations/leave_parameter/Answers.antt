use Rattle.std.proofs.Common.{◌∙◌, ◌<◌, ap, length, subst, sym}
use Rattle.std.proofs.lemmas.Result.{err_from_is_err_and}
use Rattle.fst_context.specs.Scope.{Scope}
use Rattle.fst_derivations.specs.Deriv.{deriv_of, one, row}
use Rattle.fst_typing.specs.Equations.{IsEquationTyped}
use Rattle.fst_premises.specs.Scopes.{after_body}
use Rattle.fst_typing.proofs.EquationLaws.{left_derived, unused_shown}
use Rattle.fst_typing.proofs.Under.{bodies_left}
use Rattle.fst_typing.proofs.equations.leave_parameter.Goals as goal

pub end_body-requires : goal.end_body-requires
end_body-requires c = λ m. subst (λ (o : Scope). 0 < length o.bodies) (sym c.in_ok-leave.ensures.left)
    (bodies_left 1 c.args.context.now (c.requires.bodies m))

pub returns-clause-typed : goal.returns-clause-typed
returns-clause-typed c =
    let is = c.in_ok-with_one.ensures ∙ ap (λ o. row o (one (deriv_of c.args.under))) c.in_ok-t.ensures in
    let left = c.end_body.ensures ∙ ap (after_body c.args.parameter.uses) c.in_ok-leave.ensures.left in
    λ k e t s z h n y. subst (λ o. IsEquationTyped k t s o e (deriv_of c.in_ok-with_one.field-0)) (sym left)
    (left_derived k e t c.args.parameter s z c.args.context.now (deriv_of c.args.under)
    (deriv_of c.in_ok-with_one.field-0) h n y c.in_ok-leave.ensures.used is)

pub returns-in_err-leave-clause-refused : goal.returns-in_err-leave-clause-refused
returns-in_err-leave-clause-refused c =
    let p = err_from_is_err_and c.from_residual.result c.from_residual.ensures.1 in
    rw (p.1, p.2) (λ k e t s z h n y m. unused_shown k e t c.args.parameter s z c.args.context.now
    (deriv_of c.args.under) c.in_err-leave.field-0.0 h n y (c.in_err-leave.ensures.refused m))
