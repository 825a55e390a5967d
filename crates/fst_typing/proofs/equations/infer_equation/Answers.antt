use Rattle.std.proofs.Common.{List, subst}
use Rattle.std.proofs.lemmas.Result.{err_from_is_err_and}
use Rattle.fst_derivations.specs.Deriv.{deriv_of}
use Rattle.fst_premises.specs.Parameters.{AreEntered}
use Rattle.fst_premises.specs.Scenes.{check_in}
use Rattle.fst_premises.specs.declared.parameters.Parameter.{Parameter}
use Rattle.fst_typing.specs.Equations.{ShowsEquation}
use Rattle.fst_typing.proofs.EquationLaws.{all_shown, innermost, innermost_typed, none_typed, some_body, some_entered}
use Rattle.fst_typing.proofs.equations.infer_equation.Goals as goal

pub loop-parameter-init : goal.loop-parameter-init
loop-parameter-init c =
    let o = c.in_ok-entered in (
      o.entered.body.now,
      o.entered.to.now,
      c.enter_parameters.new.context,
      o.ensures.entered,
      c.in_ok-found.ensures.typed o.ensures.last,
    )

pub returns-clause-typed : goal.returns-clause-typed
returns-clause-typed c =
    let i = c.loop-parameter.invariant in
    none_typed (check_in c.args.scene) c.args.term.now c.args.wanted.now c.args.context.now
    c.loop-parameter.entered.parameters.items i.0 i.1 i.2 c.loop-parameter.context (deriv_of c.loop-parameter.found)
    c.in_default.ensures.items i.3 i.4

pub leave_parameter-requires : goal.leave_parameter-requires
leave_parameter-requires c =
    let C = check_in c.args.scene in
    let l = c.loop-parameter in
    let i = l.invariant in
    let p = c.in-Some.parameter in
    let ps = c.pop_parameter.new.parameters.items in
    let k = innermost C c.args.term.now c.args.wanted.now c.args.context.now ps p i.0 i.1 i.2
    (subst (λ (xs : List Parameter). AreEntered C c.args.term.now c.args.wanted.now c.args.context.now xs i.0 i.1 i.2)
    c.in-Some.ensures.items i.3) in
    record {
      some = some_entered C p k.scope i.2 l.context k.entered i.4;
      bodies =
          some_body C p k.scope i.2 l.context k.entered i.4;
    }

pub loop-parameter-preserved : goal.loop-parameter-preserved
loop-parameter-preserved c =
    let C = check_in c.args.scene in
    let l = c.loop-parameter in
    let i = l.invariant in
    let p = c.in-Some.parameter in
    let ps = c.pop_parameter.new.parameters.items in
    let k = innermost C c.args.term.now c.args.wanted.now c.args.context.now ps p i.0 i.1 i.2
    (subst (λ (xs : List Parameter). AreEntered C c.args.term.now c.args.wanted.now c.args.context.now xs i.0 i.1 i.2)
    c.in-Some.ensures.items i.3) in
    let y = innermost_typed C c.args.term.now c.args.wanted.now c.args.context.now ps p i.0 i.1 i.2 l.context
    (deriv_of l.found) k i.4 in
    (k.term, k.type, k.scope, k.outer, c.in_ok-found-2.ensures.typed C k.term k.type k.scope i.2 k.has k.entered y)

pub returns-in_err-found-clause-refused : goal.returns-in_err-found-clause-refused
returns-in_err-found-clause-refused c =
    let o = c.in_ok-entered in
    let f = c.in_err-found.field-0.0 in
    let p = err_from_is_err_and c.from_residual-in_err-found.result c.from_residual-in_err-found.ensures.1 in
    rw (p.1, p.2) (λ m. all_shown (check_in c.args.scene) c.args.term.now c.args.wanted.now c.args.context.now
    o.entered.parameters.items o.entered.body.now o.entered.to.now c.enter_parameters.new.context f
    o.ensures.entered
    (ShowsEquation.result o.ensures.last (c.in_err-found.ensures.refused m)))

pub returns-in_err-found-2-clause-refused : goal.returns-in_err-found-2-clause-refused
returns-in_err-found-2-clause-refused c =
    let C = check_in c.args.scene in
    let l = c.loop-parameter in
    let i = l.invariant in
    let p = c.in-Some.parameter in
    let ps = c.pop_parameter.new.parameters.items in
    let k = innermost C c.args.term.now c.args.wanted.now c.args.context.now ps p i.0 i.1 i.2
    (subst (λ (xs : List Parameter). AreEntered C c.args.term.now c.args.wanted.now c.args.context.now xs i.0 i.1 i.2)
    c.in-Some.ensures.items i.3) in
    let y = innermost_typed C c.args.term.now c.args.wanted.now c.args.context.now ps p i.0 i.1 i.2 l.context
    (deriv_of l.found) k i.4 in
    let f = c.in_err-found-2.field-0.0 in
    let q = err_from_is_err_and c.from_residual-in_err-found-2.result c.from_residual-in_err-found-2.ensures.1 in
    rw (q.1, q.2) (λ m. all_shown C c.args.term.now c.args.wanted.now c.args.context.now ps k.term k.type k.scope f k.outer
    (c.in_err-found-2.ensures.refused C k.term k.type k.scope i.2 k.has k.entered y m))
