use Rattle.std.proofs.Common.{◌∙◌, List, [], inr, subst, sym}
use Rattle.std.proofs.lemmas.Result.{IfErr-weaker, IfOk-weaker}
use Rattle.std.proofs.lemmas.Option.{same_Some}
use Rattle.fst_types.specs.declared.kind.Kind.{Kind}
use Rattle.fst_context.specs.Scope.{Scope, empty}
use Rattle.fst_context.specs.Vars.{no_vars}
use Rattle.fst_derivations.specs.Deriv.{deriv_of}
use Rattle.fst_derivations.specs.Modules.{Equation, surroundings}
use Rattle.fst_derivations.specs.Parts.{IsFormed}
use Rattle.fst_written.proofs.Laws.{signature_formed}
use Rattle.fst_typing.specs.Checked.{check_over, IsEquationDerived, checking_over, ShowsGlobal}
use Rattle.fst_typing.specs.Equations.{IsEquationTyped, ShowsEquation}
use Rattle.fst_premises.specs.Scenes.{IsReady}
use Rattle.fst_premises.specs.Shown.{IsShown}
use Rattle.fst_typing.proofs.Founds.{equation_closed, equation_ready, set_up, signature_there}
use Rattle.fst_typing.proofs.globals.check_global.Goals as goal

pub check_name-requires : goal.check_name-requires
check_name-requires c = signature_there c.args.m.now c.args.budget c.requires.there.0 c.args.global.now c.requires.there.1

pub type_at-signature-requires : goal.type_at-signature-requires
type_at-signature-requires c = signature_there c.args.m.now c.args.budget c.requires.there.0 c.args.global.now c.requires.there.1

pub infer_equation-requires-clause-set_up : goal.infer_equation-requires-clause-set_up
infer_equation-requires-clause-set_up c = set_up c.args.m.now c.args.budget c.deref.result.now c.requires.budget c.requires.types

pub infer_equation-requires-clause-ready : goal.infer_equation-requires-clause-ready
infer_equation-requires-clause-ready c =
    let m = c.args.m.now in
    let g = c.args.global.now in
    let ready = equation_ready m c.args.budget c.requires.there.0 g c.requires.types c.requires.there.1 in
    subst (λ (vars : List Kind). IsReady (check_over m c.args.budget vars) g.body c.new-context.result.variables)
    (sym c.deref.ensures.value)
    (subst (λ (s : Scope). IsReady (check_over m c.args.budget g.kinds.items) g.body s.variables)
    (sym c.new-context.ensures) ready)

pub infer_equation-requires-clause-formed : goal.infer_equation-requires-clause-formed
infer_equation-requires-clause-formed c =
    let g = c.args.global.now in
    let t = c.type_at-signature.result.now in
    let h = signature_formed c.args.m.now c.requires.types c.requires.there.0 g c.requires.there.1 in
    subst (λ (vars : List Kind). IsFormed vars t) (sym c.deref.ensures.value)
    (subst (IsFormed g.kinds.items) (same_Some h.0 t (sym h.1 ∙ c.type_at-signature.ensures)) h.2)

pub returns-clause-derived : goal.returns-clause-derived
returns-clause-derived c =
    let m = c.args.m.now in
    let g = c.args.global.now in
    let t = c.type_at-signature.result.now in
    let k = check_over m c.args.budget c.deref.result.now in
    IfOk-weaker c.infer_equation.result (λ d. IsEquationTyped k t c.new-context.result c.infer_equation.new.context g.body
    (deriv_of d)) (λ d. IsEquationDerived m c.args.budget g (deriv_of d))
    (λ d y. (
      t,
      c.type_at-signature.ensures,
      subst (λ (vars : List Kind). Equation (surroundings m vars) (checking_over m c.args.budget vars) g.body t [] no_vars
          (deriv_of d)) c.deref.ensures.value
          (equation_closed k t c.infer_equation.new.context g.body (deriv_of d)
          (subst (λ (s : Scope). IsEquationTyped k t s c.infer_equation.new.context g.body (deriv_of d)) c.new-context.ensures
          y)),
    ))
    c.infer_equation.ensures.typed

pub returns-clause-refused : goal.returns-clause-refused
returns-clause-refused c =
    let m = c.args.m.now in
    let g = c.args.global.now in
    let t = c.type_at-signature.result.now in
    IfErr-weaker c.infer_equation.result (λ f. IsShown f
    (ShowsEquation (check_over m c.args.budget c.deref.result.now) g.body t c.new-context.result f))
    (λ f. IsShown f (ShowsGlobal m c.args.budget g f))
    (λ f y n. inr (
      c.in_ok-check_name.ensures.main,
      (
        t,
        c.type_at-signature.ensures,
        subst (λ (vars : List Kind). ShowsEquation (check_over m c.args.budget vars) g.body t empty f) c.deref.ensures.value
            (subst (λ (s : Scope). ShowsEquation (check_over m c.args.budget c.deref.result.now) g.body t s f)
            c.new-context.ensures (y n)),
      ),
    ))
    c.infer_equation.ensures.refused
