use Rattle.std.proofs.Common.{◌≡◌, ◌∙◌, ◌<◌, ◌∷◌, List, [], Some, Bool, ap, arith, get_or, inl, inr, length, refl, reverse, subst, sym}
use Rattle.std.specs.Prelude.{◌⊎◌, IsSome}
use Rattle.std.proofs.lemmas.List.{length-reverse}
use Rattle.std.proofs.lemmas.Result.{IfErr-weaker, IfOk-weaker, err_from_is_err_and}
use Rattle.std.proofs.lemmas.Option.{same_Some, slice_get_within}
use Rattle.fst_terms.proofs.Laws.{core_arms_height_at, cores_height_at}
use Rattle.fst_types.specs.Tree as type
use Rattle.fst_types.specs.Tree.{Tree, plain, arrow}
use Rattle.fst_types.specs.declared.base.Base.{Base}
use Rattle.fst_types.specs.declared.base.Base.TheVariants.{Bool as Truth, Unit as Nothing}
use Rattle.fst_types.specs.declared.family.Maker.{Maker}
use Rattle.fst_types.specs.declared.kind.Use.TheVariants.{Many}
use Rattle.fst_types.specs.declared.label.Label.TheVariants.{Send, Receive, Select, Close, Wait}
use Rattle.fst_lts.specs.Step.{step}
use Rattle.fst_terms.specs.Around.{second, wrap}
use Rattle.fst_terms.specs.CoreTree.{CoreTree, core_height, local, global, int, bool, char, unit, pair, make, lambda, let_in, split, if_else, case_of, match_with, negate, new, send, receive, close, wait, select, fork, seq}
use Rattle.fst_terms.specs.InRange.{terms_length}
use Rattle.fst_terms.specs.ModelCoreView.{core_arms_of, cores_of}
use Rattle.fst_terms.specs.declared.core_term.Arm.{Arm}
use Rattle.fst_terms.specs.declared.binder.Binder.{Binder}
use Rattle.fst_context.specs.Scope.{Scope, Variable, entered, with_marks}
use Rattle.fst_arms.specs.Arms.{arm_labels}
use Rattle.fst_derivations.specs.Deriv.{convert, deriv_of, one, parts_of, row, two, type_of}
use Rattle.fst_derivations.specs.Parts.{AreAt, AreVariables, HasUse, IsFormed, IsOffering, enter_all}
use Rattle.fst_derivations.specs.Rules.{fields, rest}
use Rattle.fst_premises.specs.Checks.{IsInSize, AreInSize}
use Rattle.fst_premises.specs.Scenes.{check_in, IsReady, AreFormed}
use Rattle.fst_premises.proofs.Laws.{closed_formed}
use Rattle.fst_typing.specs.Scenes.{binding_of, AreArmsReady, AreArmsTyped, AreFieldsReady, IsArmReady, IsArmTyped, IsFirstTyped, IsNumbered, ShowsArm}
use Rattle.fst_premises.specs.Scopes.{inside, AreUsed, entered_all, left_all}
use Rattle.fst_premises.specs.Shown.{place, IsLargeBinder, IsTooLargeAt, ShowsNoCase, ShowsNoMatch, ShowsUnused, ShowsDropped, ShowsNoFunction, ShowsNoPair, ShowsReceive, ShowsClose, ShowsWait, ShowsSelect, ShowsSend, UseDifferent, IsShown}
use Rattle.fst_premises.specs.Signs.{result_type}
use Rattle.fst_typing.specs.Shown.{NoMore, Shows, IsUnequal, ShowsArms, Under, IsRefused}
use Rattle.fst_typing.specs.Typed.{IsKnown, IsTyped, IsTypedUnder}
use Rattle.fst_typing.proofs.ArmRows.{RowSoFar, all_seen, arm_ready, arm_takes, first_is, first_refused, further_different, further_refused, further_unequal, row_begin, row_end, row_step, row_takes}
use Rattle.fst_typing.proofs.ArmsReady.{case_first_ready, case_ready, enter_length, match_first_ready, match_ready}
use Rattle.fst_typing.proofs.Bound.{function_typed, if_typed, let_typed, split_typed}
use Rattle.fst_typing.proofs.Cases.{case_numbered, case_typed, fields_arm, match_typed, one_binder, some_arms}
use Rattle.fst_typing.proofs.Fields.{FieldsSoFar, fields_end, fields_refused, fields_start, fields_step, fields_unequal, next_ready}
use Rattle.fst_typing.proofs.EquationLaws.{both_ok}
use Rattle.fst_typing.proofs.Formed.{arrow_formed, pair_formed, pair_small}
use Rattle.fst_typing.proofs.Forms.{apply_typed, close_typed, fork_typed, negate_typed, operate_typed, pair_typed, receive_typed, select_typed, send_typed, seq_typed, wait_typed}
use Rattle.fst_typing.proofs.Constants.{alone_typed, bool_typed, char_typed, int_typed, unit_typed}
use Rattle.fst_typing.proofs.Makers.{field_types, formed_fields, make_ready, make_typed, terms_of_length}
use Rattle.fst_typing.proofs.Marks.{marks_back, marks_decide, marks_length, marks_on, with_marks_same}
use Rattle.fst_typing.proofs.Ready.{close_ready, fork_ready, if_ready, inner_ready, lambda_ready, later_ready, let_first_ready, let_ready, one_ready, pair_ready, receive_ready, second_ready, select_ready, send_ready, seq_ready, split_first_ready, split_ready, wait_ready}
use Rattle.fst_typing.proofs.Refusals.{behind, behind_under, under_more, joined_refused, shows_argument, shows_around, shows_no_function, shows_operand, shows_second_operand, shows_unequal_argument, shows_unequal_operand}
use Rattle.fst_typing.proofs.Under.{bodies_entered, bodies_left, entered_variables, inside_variables}
use Rattle.fst_typing.proofs.Wholes.{refused_as, typed_as, whole_none, whole_one, whole_three, whole_two}
use Rattle.fst_typing.proofs.+infer.Goals as goal

pub infer::infer-infer_head-requires : goal.infer::infer-infer_head-requires
infer::infer-infer_head-requires t c = (
  omega (arith, c.in_ok-spine.ensures.low, c.decreases),
  (
    c.requires.set_up,
    (
      inner_ready (check_in c.args.scene) c.in_ok-spine.spine.head.now c.in_ok-spine.spine.steps.items
          c.args.context.now.variables (subst (λ e. IsReady (check_in c.args.scene) e c.args.context.now.variables)
          (sym c.in_ok-spine.ensures.whole) c.requires.ready),
      c.in_ok-spine.ensures.head,
    ),
  ),
)

pub infer::infer-infer_step-requires : goal.infer::infer-infer_step-requires
infer::infer-infer_step-requires t c =
    let i = c.loop-step.invariant in
    let whole = sym (c.in-Some.ensures.whole i.0) ∙ i.1 in
    let ready = second_ready (check_in c.args.scene) i.0 c.in-Some.step c.args.context.now.variables
    (inner_ready (check_in c.args.scene) (wrap c.in-Some.step i.0) c.pop_step.new.steps.items c.args.context.now.variables
    (subst (λ e. IsReady (check_in c.args.scene) e c.args.context.now.variables) (sym whole) c.requires.ready)) in (
      omega (arith, c.in-Some.ensures.low i.0, ap core_height i.1, c.decreases),
      (
        c.requires.set_up,
        (
          subst (IsReady (check_in c.args.scene) (second c.in-Some.step))
              (sym (ap (λ (z : Scope). z.variables) i.2.rest)) ready,
          i.2.fact.formed,
        ),
      ),
    )

pub infer::infer-loop-step-preserved : goal.infer::infer-loop-step-preserved
infer::infer-loop-step-preserved t c =
    let i = c.loop-step.invariant in (
      wrap c.in-Some.step i.0,
      sym (c.in-Some.ensures.whole i.0) ∙ i.1,
      c.in_ok-found-2.ensures.typed c.args.context.now i.0 i.2,
      c.begin_of-at.ensures i.0,
    )

pub infer::infer-returns-clause-typed : goal.infer::infer-returns-clause-typed
infer::infer-returns-clause-typed t c =
    let i = c.loop-step.invariant in
    subst (λ e. IsTyped (check_in c.args.scene) c.args.context.now c.loop-step.context e (deriv_of c.loop-step.found))
    (sym (c.in_default.ensures.whole i.0) ∙ i.1) i.2

pub infer::infer-returns-in_err-found-clause-refused : goal.infer::infer-returns-in_err-found-clause-refused
infer::infer-returns-in_err-found-clause-refused t c =
    let p = err_from_is_err_and c.from_residual-in_err-found.result c.from_residual-in_err-found.ensures.1 in
    rw (p.1, p.2) (λ m. subst (λ e. Shows (check_in c.args.scene) e c.args.context.now c.in_err-found.field-0.0)
    c.in_ok-spine.ensures.whole (shows_around (check_in c.args.scene) c.args.context.now c.in_err-found.field-0.0
    c.in_ok-spine.spine.head.now c.in_ok-spine.spine.steps.items (c.in_err-found.ensures.refused m)))

pub infer::infer-returns-in_err-found-2-clause-refused : goal.infer::infer-returns-in_err-found-2-clause-refused
infer::infer-returns-in_err-found-2-clause-refused t c =
    let i = c.loop-step.invariant in
    let p = err_from_is_err_and c.from_residual-in_err-found-2.result c.from_residual-in_err-found-2.ensures.1 in
    rw (p.1, p.2) (λ m. subst (λ e. Shows (check_in c.args.scene) e c.args.context.now c.in_err-found-2.field-0.0)
    (sym (c.in-Some.ensures.whole i.0) ∙ i.1) (shows_around
    (check_in c.args.scene) c.args.context.now c.in_err-found-2.field-0.0 (wrap c.in-Some.step i.0) c.pop_step.new.steps.items
    (c.in_err-found-2.ensures.refused c.args.context.now i.0 i.2 i.3 m)))

pub infer::infer_step-first_operand-requires-clause-budget : goal.infer::infer_step-first_operand-requires-clause-budget
infer::infer_step-first_operand-requires-clause-budget t c =
    c.requires.set_up.budget

pub infer::infer_step-first_operand-requires-clause-found : goal.infer::infer_step-first_operand-requires-clause-found
infer::infer_step-first_operand-requires-clause-found t c =
    c.requires.formed

pub infer::infer_step-infer-requires : goal.infer::infer_step-infer-requires
infer::infer_step-infer-requires t c = (
  omega (arith, ap (λ x. core_height (second x)) c.in-Operate.is, c.decreases),
  (
    c.requires.set_up,
    subst (λ x. IsReady (check_in c.args.scene) (second x) c.args.context.now.variables) c.in-Operate.is
        c.requires.ready,
  ),
)

pub infer::infer_step-infer-requires-in-Apply : goal.infer::infer_step-infer-requires-in-Apply
infer::infer_step-infer-requires-in-Apply t c = (
  omega (arith, ap (λ x. core_height (second x)) c.in-Apply.is, c.decreases),
  (
    c.requires.set_up,
    subst (λ x. IsReady (check_in c.args.scene) (second x) c.args.context.now.variables) c.in-Apply.is
        c.requires.ready,
  ),
)

pub infer::infer_step-operated-requires-clause-found : goal.infer::infer_step-operated-requires-clause-found
infer::infer_step-operated-requires-clause-found t c =
    c.in_ok-h-in-Operate.ensures.typed.fact.formed

pub infer::infer_step-operated-requires-clause-budget : goal.infer::infer_step-operated-requires-clause-budget
infer::infer_step-operated-requires-clause-budget t c =
    c.requires.set_up.budget

pub infer::infer_step-operated-requires-clause-wanted : goal.infer::infer_step-operated-requires-clause-wanted
infer::infer_step-operated-requires-clause-wanted t c =
    c.in_ok-left-in-Operate.ensures.known.conversion.right

pub infer::infer_step-applied-requires-clause-found : goal.infer::infer_step-applied-requires-clause-found
infer::infer_step-applied-requires-clause-found t c =
    c.in_ok-h-in-Apply.ensures.typed.fact.formed

pub infer::infer_step-applied-requires-clause-budget : goal.infer::infer_step-applied-requires-clause-budget
infer::infer_step-applied-requires-clause-budget t c =
    c.requires.set_up.budget

pub infer::infer_step-applied-requires-clause-wanted : goal.infer::infer_step-applied-requires-clause-wanted
infer::infer_step-applied-requires-clause-wanted t c =
    (arrow_formed c.args.scene.vars.now c.in_ok-parts-in-Apply.ensures.ok.0 c.in_ok-parts-in-Apply.parts.0
    c.in_ok-parts-in-Apply.parts.1 (subst (IsFormed c.args.scene.vars.now)
    (sym c.type_of.ensures ∙ c.in_ok-parts-in-Apply.ensures.ok.1) c.requires.formed)).0

pub infer::infer_step-returns-in_err-left-in-Operate-clause-refused :
    goal.infer::infer_step-returns-in_err-left-in-Operate-clause-refused
infer::infer_step-returns-in_err-left-in-Operate-clause-refused t c =
    let p = err_from_is_err_and c.from_residual.result c.from_residual.ensures.1 in
    rw (p.1, p.2) (λ s e y q m. subst (λ x. Shows (check_in c.args.scene) (wrap x e) s c.in_err-left-in-Operate.field-0.0)
    (sym c.in-Operate.is) (shows_operand 0 c.in-Operate.op y q (c.in_err-left-in-Operate.ensures.refused m)))

pub infer::infer_step-returns-in_err-h-in-Operate-clause-refused :
    goal.infer::infer_step-returns-in_err-h-in-Operate-clause-refused
infer::infer_step-returns-in_err-h-in-Operate-clause-refused t c =
    let p = err_from_is_err_and c.from_residual-in_err-h-in-Operate.result c.from_residual-in_err-h-in-Operate.ensures.1 in
    rw (p.1, p.2) (λ s e y q m. subst (λ x. Shows (check_in c.args.scene) (wrap x e) s c.in_err-h-in-Operate.field-0.0)
    (sym c.in-Operate.is) (shows_second_operand 0 c.in-Operate.op
    (type_of (deriv_of c.in_ok-left-in-Operate.left)) y c.in_ok-left-in-Operate.ensures.operand
    (c.in_err-h-in-Operate.ensures.refused m)))

pub infer::infer_step-returns-in_ok-h-in-Operate-clause-refused : goal.infer::infer_step-returns-in_ok-h-in-Operate-clause-refused
infer::infer_step-returns-in_ok-h-in-Operate-clause-refused t c =
    IfErr-weaker c.operated.result (λ f. IsShown f
    (IsUnequal (check_in c.args.scene) c.place_of.result (type_of (deriv_of c.in_ok-h-in-Operate.h))
    (type_of (deriv_of c.in_ok-left-in-Operate.left)) f))
    (λ f. (s : Scope) (e : CoreTree) → IsTyped (check_in c.args.scene) s c.args.context.now e (deriv_of c.args.first) →
    c.args.at ≡ place e → IsRefused (check_in c.args.scene) (wrap c.args.step e) s f)
    (λ f u s e y q m. subst (λ x. Shows (check_in c.args.scene) (wrap x e) s f) (sym c.in-Operate.is)
    (shows_unequal_operand 0 c.in-Operate.op (type_of (deriv_of c.in_ok-left-in-Operate.left)) y
    c.in_ok-left-in-Operate.ensures.operand c.in_ok-h-in-Operate.ensures.typed c.place_of.ensures (u m)))
    c.operated.ensures.refused

pub infer::infer_step-returns-in_ok-h-in-Operate-clause-typed : goal.infer::infer_step-returns-in_ok-h-in-Operate-clause-typed
infer::infer_step-returns-in_ok-h-in-Operate-clause-typed t c =
    IfOk-weaker c.operated.result (λ w. IsKnown (check_in c.args.scene) (type_of (deriv_of c.in_ok-h-in-Operate.h))
    (type_of (deriv_of c.in_ok-left-in-Operate.left)) ×
    (deriv_of w ≡ row (result_type c.in-Operate.op)
    (two (deriv_of c.in_ok-left-in-Operate.left)
    (convert (type_of (deriv_of c.in_ok-h-in-Operate.h)) (type_of (deriv_of c.in_ok-left-in-Operate.left))
    (deriv_of c.in_ok-h-in-Operate.h))))) (λ w. (s : Scope) (e : CoreTree) →
    IsTyped (check_in c.args.scene) s c.args.context.now e (deriv_of c.args.first) →
    IsTyped (check_in c.args.scene) s c.infer.new.context (wrap c.args.step e) (deriv_of w))
    (λ w k s e y. subst (λ x. IsTyped (check_in c.args.scene) s c.infer.new.context (wrap x e) (deriv_of w)) (sym c.in-Operate.is)
    (operate_typed (check_in c.args.scene) _ _ _ _ _ _ _ _ _ _
    (type_of (deriv_of c.in_ok-left-in-Operate.left)) _ _ _ y c.in_ok-h-in-Operate.ensures.typed
    c.in_ok-left-in-Operate.ensures.turned c.in_ok-left-in-Operate.ensures.known c.in_ok-left-in-Operate.ensures.operand refl
    k.0 refl k.1))
    c.operated.ensures.made

pub infer::infer_step-returns-in_err-parts-in-Apply-clause-refused :
    goal.infer::infer_step-returns-in_err-parts-in-Apply-clause-refused
infer::infer_step-returns-in_err-parts-in-Apply-clause-refused t c =
    let p = err_from_is_err_and c.from_residual-in_err-parts-in-Apply.result c.from_residual-in_err-parts-in-Apply.ensures.1 in
    rw (p.1, p.2) (λ s e y q m. subst (λ x. Shows (check_in c.args.scene) (wrap x e) s c.in_err-parts-in-Apply.field-0.0)
    (sym c.in-Apply.is) (shows_no_function 0 y q
    (subst (λ o. ShowsNoFunction c.args.at o c.in_err-parts-in-Apply.field-0.0) c.type_of.ensures
    (c.in_err-parts-in-Apply.ensures.err m))))

pub infer::infer_step-returns-in_err-h-in-Apply-clause-refused : goal.infer::infer_step-returns-in_err-h-in-Apply-clause-refused
infer::infer_step-returns-in_err-h-in-Apply-clause-refused t c =
    let p = err_from_is_err_and c.from_residual-in_err-h-in-Apply.result c.from_residual-in_err-h-in-Apply.ensures.1 in
    rw (p.1, p.2) (λ s e y q m. subst (λ x. Shows (check_in c.args.scene) (wrap x e) s c.in_err-h-in-Apply.field-0.0)
    (sym c.in-Apply.is) (shows_argument 0 c.in_ok-parts-in-Apply.ensures.ok.0 c.in_ok-parts-in-Apply.parts.0
    c.in_ok-parts-in-Apply.parts.1 y (sym c.type_of.ensures ∙ c.in_ok-parts-in-Apply.ensures.ok.1)
    (c.in_err-h-in-Apply.ensures.refused m)))

pub infer::infer_step-returns-in_ok-h-in-Apply-clause-refused : goal.infer::infer_step-returns-in_ok-h-in-Apply-clause-refused
infer::infer_step-returns-in_ok-h-in-Apply-clause-refused t c =
    IfErr-weaker c.applied.result (λ f. IsShown f
    (IsUnequal (check_in c.args.scene) c.place_of-in-Apply.result
    (type_of (deriv_of c.in_ok-h-in-Apply.h)) c.in_ok-parts-in-Apply.parts.0 f))
    (λ f. (s : Scope) (e : CoreTree) → IsTyped (check_in c.args.scene) s c.args.context.now e (deriv_of c.args.first) →
    c.args.at ≡ place e → IsRefused (check_in c.args.scene) (wrap c.args.step e) s f)
    (λ f u s e y q m. subst (λ x. Shows (check_in c.args.scene) (wrap x e) s f) (sym c.in-Apply.is)
    (shows_unequal_argument 0 c.in_ok-parts-in-Apply.ensures.ok.0 c.in_ok-parts-in-Apply.parts.0
    c.in_ok-parts-in-Apply.parts.1 y (sym c.type_of.ensures ∙ c.in_ok-parts-in-Apply.ensures.ok.1)
    c.in_ok-h-in-Apply.ensures.typed c.place_of-in-Apply.ensures (u m)))
    c.applied.ensures.refused

pub infer::infer_step-returns-in_ok-h-in-Apply-clause-typed : goal.infer::infer_step-returns-in_ok-h-in-Apply-clause-typed
infer::infer_step-returns-in_ok-h-in-Apply-clause-typed t c =
    IfOk-weaker c.applied.result (λ w. IsKnown (check_in c.args.scene)
    (type_of (deriv_of c.in_ok-h-in-Apply.h)) c.in_ok-parts-in-Apply.parts.0 ×
    (deriv_of w ≡ row c.in_ok-parts-in-Apply.parts.1
    (two (deriv_of c.args.first) (convert (type_of (deriv_of c.in_ok-h-in-Apply.h)) c.in_ok-parts-in-Apply.parts.0
    (deriv_of c.in_ok-h-in-Apply.h))))) (λ w. (s : Scope) (e : CoreTree) →
    IsTyped (check_in c.args.scene) s c.args.context.now e (deriv_of c.args.first) →
    IsTyped (check_in c.args.scene) s c.infer-in-Apply.new.context (wrap c.args.step e) (deriv_of w))
    (λ w k s e y. subst (λ x. IsTyped (check_in c.args.scene) s c.infer-in-Apply.new.context (wrap x e) (deriv_of w))
    (sym c.in-Apply.is)
    (apply_typed (check_in c.args.scene) _ _ _ _ _ _ _ c.in_ok-parts-in-Apply.ensures.ok.0 c.in_ok-parts-in-Apply.parts.0
    c.in_ok-parts-in-Apply.parts.1 _ _ _ y c.in_ok-h-in-Apply.ensures.typed
    (sym c.type_of.ensures ∙ c.in_ok-parts-in-Apply.ensures.ok.1) refl k.0 k.1))
    c.applied.ensures.made

pub infer::infer_head-infer_function-requires : goal.infer::infer_head-infer_function-requires
infer::infer_head-infer_function-requires t c =
    let whole = whole_one (λ n x. lambda n c.in-Lambda.uses c.in-Lambda.k c.in-Lambda.binder x)
    (λ n x. refl) (rw c.in-Lambda.is at c.head.view_is) c.place_of-at.ensures c.deref-in-Lambda.ensures in (
      omega (arith, ap core_height whole, c.decreases),
      (c.requires.set_up, subst (λ e. IsReady (check_in c.args.scene) e c.args.context.now.variables) whole c.requires.ready),
    )

pub infer::infer_head-returns-in-Lambda-clause-typed : goal.infer::infer_head-returns-in-Lambda-clause-typed
infer::infer_head-returns-in-Lambda-clause-typed t c =
    let whole = whole_one (λ n x. lambda n c.in-Lambda.uses c.in-Lambda.k c.in-Lambda.binder x)
    (λ n x. refl) (rw c.in-Lambda.is at c.head.view_is) c.place_of-at.ensures c.deref-in-Lambda.ensures in
    typed_as (check_in c.args.scene) c.args.context.now c.infer_function.new.context c.infer_function.result
    (λ d. deriv_of d) whole c.infer_function.ensures.typed

pub infer::infer_head-returns-in-Lambda-clause-refused : goal.infer::infer_head-returns-in-Lambda-clause-refused
infer::infer_head-returns-in-Lambda-clause-refused t c =
    let whole = whole_one (λ n x. lambda n c.in-Lambda.uses c.in-Lambda.k c.in-Lambda.binder x)
    (λ n x. refl) (rw c.in-Lambda.is at c.head.view_is) c.place_of-at.ensures c.deref-in-Lambda.ensures in
    refused_as (check_in c.args.scene) c.args.context.now c.infer_function.result whole c.infer_function.ensures.refused

pub infer::infer_head-infer_if-requires : goal.infer::infer_head-infer_if-requires
infer::infer_head-infer_if-requires t c =
    let whole = whole_three if_else (λ n x y z. refl)
    (rw c.in-If.is at c.head.view_is) c.place_of-at.ensures c.deref-in-If.ensures c.deref-in-If-2.ensures
    c.deref-in-If-3.ensures in (
      omega (arith, ap core_height whole, c.decreases),
      (c.requires.set_up, subst (λ e. IsReady (check_in c.args.scene) e c.args.context.now.variables) whole c.requires.ready),
    )

pub infer::infer_head-returns-in-If-clause-typed : goal.infer::infer_head-returns-in-If-clause-typed
infer::infer_head-returns-in-If-clause-typed t c =
    let whole = whole_three if_else (λ n x y z. refl)
    (rw c.in-If.is at c.head.view_is) c.place_of-at.ensures c.deref-in-If.ensures c.deref-in-If-2.ensures
    c.deref-in-If-3.ensures in
    typed_as (check_in c.args.scene) c.args.context.now c.infer_if.new.context c.infer_if.result
    (λ d. deriv_of d) whole c.infer_if.ensures.typed

pub infer::infer_head-returns-in-If-clause-refused : goal.infer::infer_head-returns-in-If-clause-refused
infer::infer_head-returns-in-If-clause-refused t c =
    let whole = whole_three if_else (λ n x y z. refl)
    (rw c.in-If.is at c.head.view_is) c.place_of-at.ensures c.deref-in-If.ensures c.deref-in-If-2.ensures
    c.deref-in-If-3.ensures in
    refused_as (check_in c.args.scene) c.args.context.now c.infer_if.result whole c.infer_if.ensures.refused

pub infer::infer_head-infer_case-requires : goal.infer::infer_head-infer_case-requires
infer::infer_head-infer_case-requires t c =
    let whole = whole_one (λ n x. case_of n x (core_arms_of c.in-Case.arms.items))
    (λ n x. refl) (rw c.in-Case.is at c.head.view_is) c.place_of-at.ensures c.deref-in-Case.ensures ∙ ap
    (λ xs. case_of c.place_of-at.result c.deref-in-Case.result.now (core_arms_of xs)) (sym c.deref-in-Case-2.ensures.value) in (
      omega (arith, ap core_height whole, c.decreases),
      (c.requires.set_up, subst (λ e. IsReady (check_in c.args.scene) e c.args.context.now.variables) whole c.requires.ready),
    )

pub infer::infer_head-returns-in-Case-clause-typed : goal.infer::infer_head-returns-in-Case-clause-typed
infer::infer_head-returns-in-Case-clause-typed t c =
    let whole = whole_one (λ n x. case_of n x (core_arms_of c.in-Case.arms.items))
    (λ n x. refl) (rw c.in-Case.is at c.head.view_is) c.place_of-at.ensures c.deref-in-Case.ensures ∙ ap
    (λ xs. case_of c.place_of-at.result c.deref-in-Case.result.now (core_arms_of xs)) (sym c.deref-in-Case-2.ensures.value) in
    typed_as (check_in c.args.scene) c.args.context.now c.infer_case.new.context c.infer_case.result
    (λ d. deriv_of d) whole c.infer_case.ensures.typed

pub infer::infer_head-returns-in-Case-clause-refused : goal.infer::infer_head-returns-in-Case-clause-refused
infer::infer_head-returns-in-Case-clause-refused t c =
    let whole = whole_one (λ n x. case_of n x (core_arms_of c.in-Case.arms.items))
    (λ n x. refl) (rw c.in-Case.is at c.head.view_is) c.place_of-at.ensures c.deref-in-Case.ensures ∙ ap
    (λ xs. case_of c.place_of-at.result c.deref-in-Case.result.now (core_arms_of xs)) (sym c.deref-in-Case-2.ensures.value) in
    refused_as (check_in c.args.scene) c.args.context.now c.infer_case.result whole c.infer_case.ensures.refused

pub infer::infer_head-infer_match-requires : goal.infer::infer_head-infer_match-requires
infer::infer_head-infer_match-requires t c =
    let whole = whole_one (λ n x. match_with n x (core_arms_of c.in-Match.arms.items))
    (λ n x. refl) (rw c.in-Match.is at c.head.view_is) c.place_of-at.ensures c.deref-in-Match.ensures ∙ ap
    (λ xs. match_with c.place_of-at.result c.deref-in-Match.result.now (core_arms_of xs))
    (sym c.deref-in-Match-2.ensures.value) in (
      omega (arith, ap core_height whole, c.decreases),
      (c.requires.set_up, subst (λ e. IsReady (check_in c.args.scene) e c.args.context.now.variables) whole c.requires.ready),
    )

pub infer::infer_head-returns-in-Match-clause-typed : goal.infer::infer_head-returns-in-Match-clause-typed
infer::infer_head-returns-in-Match-clause-typed t c =
    let whole = whole_one (λ n x. match_with n x (core_arms_of c.in-Match.arms.items))
    (λ n x. refl) (rw c.in-Match.is at c.head.view_is) c.place_of-at.ensures c.deref-in-Match.ensures ∙ ap
    (λ xs. match_with c.place_of-at.result c.deref-in-Match.result.now (core_arms_of xs))
    (sym c.deref-in-Match-2.ensures.value) in
    typed_as (check_in c.args.scene) c.args.context.now c.infer_match.new.context c.infer_match.result
    (λ d. deriv_of d) whole c.infer_match.ensures.typed

pub infer::infer_head-returns-in-Match-clause-refused : goal.infer::infer_head-returns-in-Match-clause-refused
infer::infer_head-returns-in-Match-clause-refused t c =
    let whole = whole_one (λ n x. match_with n x (core_arms_of c.in-Match.arms.items))
    (λ n x. refl) (rw c.in-Match.is at c.head.view_is) c.place_of-at.ensures c.deref-in-Match.ensures ∙ ap
    (λ xs. match_with c.place_of-at.result c.deref-in-Match.result.now (core_arms_of xs))
    (sym c.deref-in-Match-2.ensures.value) in
    refused_as (check_in c.args.scene) c.args.context.now c.infer_match.result whole c.infer_match.ensures.refused

pub infer::infer_head-new_channel-requires : goal.infer::infer_head-new_channel-requires
infer::infer_head-new_channel-requires t c =
    let whole = whole_none (λ n. new n c.in-New.k) (λ n. refl) (rw c.in-New.is at c.head.view_is) c.place_of-at.ensures in
    subst (λ e. IsReady (check_in c.args.scene) e c.args.context.now.variables) whole c.requires.ready

pub infer::infer_head-returns-in-New-clause-typed : goal.infer::infer_head-returns-in-New-clause-typed
infer::infer_head-returns-in-New-clause-typed t c =
    let whole = whole_none (λ n. new n c.in-New.k) (λ n. refl) (rw c.in-New.is at c.head.view_is) c.place_of-at.ensures in
    typed_as (check_in c.args.scene) c.args.context.now c.args.context.now c.new_channel.result (λ d. deriv_of d) whole
    (alone_typed (check_in c.args.scene) (new c.place_of-at.result c.in-New.k) c.args.context.now c.args.context.now
    c.new_channel.result (λ d. deriv_of d) (λ u d p. p) c.new_channel.ensures.typed)

pub infer::infer_head-returns-in-New-clause-refused : goal.infer::infer_head-returns-in-New-clause-refused
infer::infer_head-returns-in-New-clause-refused t c =
    let whole = whole_none (λ n. new n c.in-New.k) (λ n. refl) (rw c.in-New.is at c.head.view_is) c.place_of-at.ensures in
    refused_as (check_in c.args.scene) c.args.context.now c.new_channel.result whole c.new_channel.ensures.refused

pub infer::infer_head-variable-requires : goal.infer::infer_head-variable-requires
infer::infer_head-variable-requires t c =
    let whole = whole_none (λ n. local n c.in-Local.k) (λ n. refl) (rw c.in-Local.is at c.head.view_is) c.place_of-at.ensures in
    subst (λ e. IsReady (check_in c.args.scene) e c.args.context.now.variables) whole c.requires.ready

pub infer::infer_head-returns-in-Local-clause-typed : goal.infer::infer_head-returns-in-Local-clause-typed
infer::infer_head-returns-in-Local-clause-typed t c =
    let whole = whole_none (λ n. local n c.in-Local.k) (λ n. refl) (rw c.in-Local.is at c.head.view_is) c.place_of-at.ensures in
    typed_as (check_in c.args.scene) c.args.context.now c.variable.new.context c.variable.result (λ d. deriv_of d) whole
    (alone_typed (check_in c.args.scene) (local c.place_of-at.result c.in-Local.k) c.args.context.now c.variable.new.context
    c.variable.result (λ d. deriv_of d) (λ u d p. p) c.variable.ensures.typed)

pub infer::infer_head-returns-in-Local-clause-refused : goal.infer::infer_head-returns-in-Local-clause-refused
infer::infer_head-returns-in-Local-clause-refused t c =
    let whole = whole_none (λ n. local n c.in-Local.k) (λ n. refl) (rw c.in-Local.is at c.head.view_is) c.place_of-at.ensures in
    refused_as (check_in c.args.scene) c.args.context.now c.variable.result whole c.variable.ensures.refused

pub infer::infer_head-global_use-requires-clause-ready : goal.infer::infer_head-global_use-requires-clause-ready
infer::infer_head-global_use-requires-clause-ready t c =
    let whole = whole_none (λ n. global n c.in-GlobalUse.k c.in-GlobalUse.ks.items)
    (λ n. refl) (rw c.in-GlobalUse.is at c.head.view_is) c.place_of-at.ensures ∙ ap
    (λ xs. global c.place_of-at.result c.in-GlobalUse.k xs) (sym c.deref.ensures.value) in
    subst (λ e. IsReady (check_in c.args.scene) e c.args.context.now.variables) whole c.requires.ready

pub infer::infer_head-returns-in-GlobalUse-clause-typed : goal.infer::infer_head-returns-in-GlobalUse-clause-typed
infer::infer_head-returns-in-GlobalUse-clause-typed t c =
    let whole = whole_none (λ n. global n c.in-GlobalUse.k c.in-GlobalUse.ks.items)
    (λ n. refl) (rw c.in-GlobalUse.is at c.head.view_is) c.place_of-at.ensures ∙ ap
    (λ xs. global c.place_of-at.result c.in-GlobalUse.k xs) (sym c.deref.ensures.value) in
    typed_as (check_in c.args.scene) c.args.context.now c.args.context.now c.global_use.result (λ d. deriv_of d) whole
    (alone_typed (check_in c.args.scene) (global c.place_of-at.result c.in-GlobalUse.k c.deref.result.now) c.args.context.now
    c.args.context.now c.global_use.result (λ d. deriv_of d) (λ u d p. p) c.global_use.ensures.typed)

pub infer::infer_head-returns-in-GlobalUse-clause-refused : goal.infer::infer_head-returns-in-GlobalUse-clause-refused
infer::infer_head-returns-in-GlobalUse-clause-refused t c =
    let whole = whole_none (λ n. global n c.in-GlobalUse.k c.in-GlobalUse.ks.items)
    (λ n. refl) (rw c.in-GlobalUse.is at c.head.view_is) c.place_of-at.ensures ∙ ap
    (λ xs. global c.place_of-at.result c.in-GlobalUse.k xs) (sym c.deref.ensures.value) in
    refused_as (check_in c.args.scene) c.args.context.now c.global_use.result whole c.global_use.ensures.refused

pub infer::infer_head-infer_pair-requires : goal.infer::infer_head-infer_pair-requires
infer::infer_head-infer_pair-requires t c =
    let whole = whole_two pair (λ n x y. refl) (rw c.in-Pair.is at c.head.view_is) c.place_of-at.ensures c.deref-in-Pair.ensures
    c.deref-in-Pair-2.ensures in (
      omega (arith, ap core_height whole, c.decreases),
      (c.requires.set_up, subst (λ e. IsReady (check_in c.args.scene) e c.args.context.now.variables) whole c.requires.ready),
    )

pub infer::infer_head-returns-in-Pair-clause-typed : goal.infer::infer_head-returns-in-Pair-clause-typed
infer::infer_head-returns-in-Pair-clause-typed t c =
    let whole = whole_two pair (λ n x y. refl) (rw c.in-Pair.is at c.head.view_is) c.place_of-at.ensures c.deref-in-Pair.ensures
    c.deref-in-Pair-2.ensures in
    typed_as (check_in c.args.scene) c.args.context.now c.infer_pair.new.context c.infer_pair.result
    (λ d. deriv_of d) whole c.infer_pair.ensures.typed

pub infer::infer_head-returns-in-Pair-clause-refused : goal.infer::infer_head-returns-in-Pair-clause-refused
infer::infer_head-returns-in-Pair-clause-refused t c =
    let whole = whole_two pair (λ n x y. refl) (rw c.in-Pair.is at c.head.view_is) c.place_of-at.ensures c.deref-in-Pair.ensures
    c.deref-in-Pair-2.ensures in
    refused_as (check_in c.args.scene) c.args.context.now c.infer_pair.result whole c.infer_pair.ensures.refused

pub infer::infer_head-infer_send-requires : goal.infer::infer_head-infer_send-requires
infer::infer_head-infer_send-requires t c =
    let whole = whole_two send (λ n x y. refl) (rw c.in-Send.is at c.head.view_is) c.place_of-at.ensures c.deref-in-Send.ensures
    c.deref-in-Send-2.ensures in (
      omega (arith, ap core_height whole, c.decreases),
      (c.requires.set_up, subst (λ e. IsReady (check_in c.args.scene) e c.args.context.now.variables) whole c.requires.ready),
    )

pub infer::infer_head-returns-in-Send-clause-typed : goal.infer::infer_head-returns-in-Send-clause-typed
infer::infer_head-returns-in-Send-clause-typed t c =
    let whole = whole_two send (λ n x y. refl) (rw c.in-Send.is at c.head.view_is) c.place_of-at.ensures c.deref-in-Send.ensures
    c.deref-in-Send-2.ensures in
    typed_as (check_in c.args.scene) c.args.context.now c.infer_send.new.context c.infer_send.result
    (λ d. deriv_of d) whole c.infer_send.ensures.typed

pub infer::infer_head-returns-in-Send-clause-refused : goal.infer::infer_head-returns-in-Send-clause-refused
infer::infer_head-returns-in-Send-clause-refused t c =
    let whole = whole_two send (λ n x y. refl) (rw c.in-Send.is at c.head.view_is) c.place_of-at.ensures c.deref-in-Send.ensures
    c.deref-in-Send-2.ensures in
    refused_as (check_in c.args.scene) c.args.context.now c.infer_send.result whole c.infer_send.ensures.refused

pub infer::infer_head-infer_then-requires : goal.infer::infer_head-infer_then-requires
infer::infer_head-infer_then-requires t c =
    let whole = whole_two seq (λ n x y. refl) (rw c.in-Then.is at c.head.view_is) c.place_of-at.ensures c.deref-in-Then.ensures
    c.deref-in-Then-2.ensures in (
      omega (arith, ap core_height whole, c.decreases),
      (c.requires.set_up, subst (λ e. IsReady (check_in c.args.scene) e c.args.context.now.variables) whole c.requires.ready),
    )

pub infer::infer_head-returns-in-Then-clause-typed : goal.infer::infer_head-returns-in-Then-clause-typed
infer::infer_head-returns-in-Then-clause-typed t c =
    let whole = whole_two seq (λ n x y. refl) (rw c.in-Then.is at c.head.view_is) c.place_of-at.ensures c.deref-in-Then.ensures
    c.deref-in-Then-2.ensures in
    typed_as (check_in c.args.scene) c.args.context.now c.infer_then.new.context c.infer_then.result
    (λ d. deriv_of d) whole c.infer_then.ensures.typed

pub infer::infer_head-returns-in-Then-clause-refused : goal.infer::infer_head-returns-in-Then-clause-refused
infer::infer_head-returns-in-Then-clause-refused t c =
    let whole = whole_two seq (λ n x y. refl) (rw c.in-Then.is at c.head.view_is) c.place_of-at.ensures c.deref-in-Then.ensures
    c.deref-in-Then-2.ensures in
    refused_as (check_in c.args.scene) c.args.context.now c.infer_then.result whole c.infer_then.ensures.refused

pub infer::infer_head-infer_make-requires : goal.infer::infer_head-infer_make-requires
infer::infer_head-infer_make-requires t c =
    let whole = whole_none (λ n. make n c.in-Make.family c.in-Make.maker (cores_of c.in-Make.arguments.items))
    (λ n. refl) (rw c.in-Make.is at c.head.view_is) c.place_of-at.ensures ∙ ap
    (λ xs. make c.place_of-at.result c.in-Make.family c.in-Make.maker (cores_of xs)) (sym c.deref-in-Make.ensures.value) in (
      omega (arith, ap core_height whole, c.decreases),
      (c.requires.set_up, subst (λ e. IsReady (check_in c.args.scene) e c.args.context.now.variables) whole c.requires.ready),
    )

pub infer::infer_head-returns-in-Make-clause-typed : goal.infer::infer_head-returns-in-Make-clause-typed
infer::infer_head-returns-in-Make-clause-typed t c =
    let whole = whole_none (λ n. make n c.in-Make.family c.in-Make.maker (cores_of c.in-Make.arguments.items))
    (λ n. refl) (rw c.in-Make.is at c.head.view_is) c.place_of-at.ensures ∙ ap
    (λ xs. make c.place_of-at.result c.in-Make.family c.in-Make.maker (cores_of xs)) (sym c.deref-in-Make.ensures.value) in
    typed_as (check_in c.args.scene) c.args.context.now c.infer_make.new.context c.infer_make.result
    (λ d. deriv_of d) whole c.infer_make.ensures.typed

pub infer::infer_head-returns-in-Make-clause-refused : goal.infer::infer_head-returns-in-Make-clause-refused
infer::infer_head-returns-in-Make-clause-refused t c =
    let whole = whole_none (λ n. make n c.in-Make.family c.in-Make.maker (cores_of c.in-Make.arguments.items))
    (λ n. refl) (rw c.in-Make.is at c.head.view_is) c.place_of-at.ensures ∙ ap
    (λ xs. make c.place_of-at.result c.in-Make.family c.in-Make.maker (cores_of xs)) (sym c.deref-in-Make.ensures.value) in
    refused_as (check_in c.args.scene) c.args.context.now c.infer_make.result whole c.infer_make.ensures.refused

pub infer::infer_head-infer_let-requires : goal.infer::infer_head-infer_let-requires
infer::infer_head-infer_let-requires t c =
    let whole = whole_two (λ n x y. let_in n c.in-Let.binder x y)
    (λ n x y. refl) (rw c.in-Let.is at c.head.view_is) c.place_of-at.ensures c.deref-in-Let.ensures
    c.deref-in-Let-2.ensures in (
      omega (arith, ap core_height whole, c.decreases),
      (c.requires.set_up, subst (λ e. IsReady (check_in c.args.scene) e c.args.context.now.variables) whole c.requires.ready),
    )

pub infer::infer_head-returns-in-Let-clause-typed : goal.infer::infer_head-returns-in-Let-clause-typed
infer::infer_head-returns-in-Let-clause-typed t c =
    let whole = whole_two (λ n x y. let_in n c.in-Let.binder x y)
    (λ n x y. refl) (rw c.in-Let.is at c.head.view_is) c.place_of-at.ensures c.deref-in-Let.ensures
    c.deref-in-Let-2.ensures in
    typed_as (check_in c.args.scene) c.args.context.now c.infer_let.new.context c.infer_let.result
    (λ d. deriv_of d) whole c.infer_let.ensures.typed

pub infer::infer_head-returns-in-Let-clause-refused : goal.infer::infer_head-returns-in-Let-clause-refused
infer::infer_head-returns-in-Let-clause-refused t c =
    let whole = whole_two (λ n x y. let_in n c.in-Let.binder x y)
    (λ n x y. refl) (rw c.in-Let.is at c.head.view_is) c.place_of-at.ensures c.deref-in-Let.ensures
    c.deref-in-Let-2.ensures in
    refused_as (check_in c.args.scene) c.args.context.now c.infer_let.result whole c.infer_let.ensures.refused

pub infer::infer_head-infer_split-requires : goal.infer::infer_head-infer_split-requires
infer::infer_head-infer_split-requires t c =
    let whole = whole_two (λ n x y. split n c.in-Split.left c.in-Split.right x y)
    (λ n x y. refl) (rw c.in-Split.is at c.head.view_is) c.place_of-at.ensures c.deref-in-Split.ensures
    c.deref-in-Split-2.ensures in (
      omega (arith, ap core_height whole, c.decreases),
      (c.requires.set_up, subst (λ e. IsReady (check_in c.args.scene) e c.args.context.now.variables) whole c.requires.ready),
    )

pub infer::infer_head-returns-in-Split-clause-typed : goal.infer::infer_head-returns-in-Split-clause-typed
infer::infer_head-returns-in-Split-clause-typed t c =
    let whole = whole_two (λ n x y. split n c.in-Split.left c.in-Split.right x y)
    (λ n x y. refl) (rw c.in-Split.is at c.head.view_is) c.place_of-at.ensures c.deref-in-Split.ensures
    c.deref-in-Split-2.ensures in
    typed_as (check_in c.args.scene) c.args.context.now c.infer_split.new.context c.infer_split.result
    (λ d. deriv_of d) whole c.infer_split.ensures.typed

pub infer::infer_head-returns-in-Split-clause-refused : goal.infer::infer_head-returns-in-Split-clause-refused
infer::infer_head-returns-in-Split-clause-refused t c =
    let whole = whole_two (λ n x y. split n c.in-Split.left c.in-Split.right x y)
    (λ n x y. refl) (rw c.in-Split.is at c.head.view_is) c.place_of-at.ensures c.deref-in-Split.ensures
    c.deref-in-Split-2.ensures in
    refused_as (check_in c.args.scene) c.args.context.now c.infer_split.result whole c.infer_split.ensures.refused

pub infer::infer_head-infer_not-requires : goal.infer::infer_head-infer_not-requires
infer::infer_head-infer_not-requires t c =
    let whole = whole_one negate (λ n x. refl) (rw c.in-Not.is at c.head.view_is) c.place_of-at.ensures
    c.deref-in-Not.ensures in (
      omega (arith, ap core_height whole, c.decreases),
      (c.requires.set_up, subst (λ e. IsReady (check_in c.args.scene) e c.args.context.now.variables) whole c.requires.ready),
    )

pub infer::infer_head-returns-in-Not-clause-typed : goal.infer::infer_head-returns-in-Not-clause-typed
infer::infer_head-returns-in-Not-clause-typed t c =
    let whole = whole_one negate (λ n x. refl) (rw c.in-Not.is at c.head.view_is) c.place_of-at.ensures c.deref-in-Not.ensures in
    typed_as (check_in c.args.scene) c.args.context.now c.infer_not.new.context c.infer_not.result
    (λ d. deriv_of d) whole c.infer_not.ensures.typed

pub infer::infer_head-returns-in-Not-clause-refused : goal.infer::infer_head-returns-in-Not-clause-refused
infer::infer_head-returns-in-Not-clause-refused t c =
    let whole = whole_one negate (λ n x. refl) (rw c.in-Not.is at c.head.view_is) c.place_of-at.ensures c.deref-in-Not.ensures in
    refused_as (check_in c.args.scene) c.args.context.now c.infer_not.result whole c.infer_not.ensures.refused

pub infer::infer_head-infer_receive-requires : goal.infer::infer_head-infer_receive-requires
infer::infer_head-infer_receive-requires t c =
    let whole = whole_one receive (λ n x. refl) (rw c.in-Receive.is at c.head.view_is) c.place_of-at.ensures
    c.deref-in-Receive.ensures in (
      omega (arith, ap core_height whole, c.decreases),
      (c.requires.set_up, subst (λ e. IsReady (check_in c.args.scene) e c.args.context.now.variables) whole c.requires.ready),
    )

pub infer::infer_head-returns-in-Receive-clause-typed : goal.infer::infer_head-returns-in-Receive-clause-typed
infer::infer_head-returns-in-Receive-clause-typed t c =
    let whole = whole_one receive (λ n x. refl) (rw c.in-Receive.is at c.head.view_is) c.place_of-at.ensures
    c.deref-in-Receive.ensures in
    typed_as (check_in c.args.scene) c.args.context.now c.infer_receive.new.context c.infer_receive.result
    (λ d. deriv_of d) whole c.infer_receive.ensures.typed

pub infer::infer_head-returns-in-Receive-clause-refused : goal.infer::infer_head-returns-in-Receive-clause-refused
infer::infer_head-returns-in-Receive-clause-refused t c =
    let whole = whole_one receive (λ n x. refl) (rw c.in-Receive.is at c.head.view_is) c.place_of-at.ensures
    c.deref-in-Receive.ensures in
    refused_as (check_in c.args.scene) c.args.context.now c.infer_receive.result whole c.infer_receive.ensures.refused

pub infer::infer_head-infer_close-requires : goal.infer::infer_head-infer_close-requires
infer::infer_head-infer_close-requires t c =
    let whole = whole_one close (λ n x. refl) (rw c.in-Close.is at c.head.view_is) c.place_of-at.ensures
    c.deref-in-Close.ensures in (
      omega (arith, ap core_height whole, c.decreases),
      (c.requires.set_up, subst (λ e. IsReady (check_in c.args.scene) e c.args.context.now.variables) whole c.requires.ready),
    )

pub infer::infer_head-returns-in-Close-clause-typed : goal.infer::infer_head-returns-in-Close-clause-typed
infer::infer_head-returns-in-Close-clause-typed t c =
    let whole = whole_one close (λ n x. refl) (rw c.in-Close.is at c.head.view_is) c.place_of-at.ensures
    c.deref-in-Close.ensures in
    typed_as (check_in c.args.scene) c.args.context.now c.infer_close.new.context c.infer_close.result
    (λ d. deriv_of d) whole c.infer_close.ensures.typed

pub infer::infer_head-returns-in-Close-clause-refused : goal.infer::infer_head-returns-in-Close-clause-refused
infer::infer_head-returns-in-Close-clause-refused t c =
    let whole = whole_one close (λ n x. refl) (rw c.in-Close.is at c.head.view_is) c.place_of-at.ensures
    c.deref-in-Close.ensures in
    refused_as (check_in c.args.scene) c.args.context.now c.infer_close.result whole c.infer_close.ensures.refused

pub infer::infer_head-infer_wait-requires : goal.infer::infer_head-infer_wait-requires
infer::infer_head-infer_wait-requires t c =
    let whole = whole_one wait (λ n x. refl) (rw c.in-Wait.is at c.head.view_is) c.place_of-at.ensures
    c.deref-in-Wait.ensures in (
      omega (arith, ap core_height whole, c.decreases),
      (c.requires.set_up, subst (λ e. IsReady (check_in c.args.scene) e c.args.context.now.variables) whole c.requires.ready),
    )

pub infer::infer_head-returns-in-Wait-clause-typed : goal.infer::infer_head-returns-in-Wait-clause-typed
infer::infer_head-returns-in-Wait-clause-typed t c =
    let whole = whole_one wait (λ n x. refl) (rw c.in-Wait.is at c.head.view_is) c.place_of-at.ensures
    c.deref-in-Wait.ensures in
    typed_as (check_in c.args.scene) c.args.context.now c.infer_wait.new.context c.infer_wait.result
    (λ d. deriv_of d) whole c.infer_wait.ensures.typed

pub infer::infer_head-returns-in-Wait-clause-refused : goal.infer::infer_head-returns-in-Wait-clause-refused
infer::infer_head-returns-in-Wait-clause-refused t c =
    let whole = whole_one wait (λ n x. refl) (rw c.in-Wait.is at c.head.view_is) c.place_of-at.ensures
    c.deref-in-Wait.ensures in
    refused_as (check_in c.args.scene) c.args.context.now c.infer_wait.result whole c.infer_wait.ensures.refused

pub infer::infer_head-infer_select-requires : goal.infer::infer_head-infer_select-requires
infer::infer_head-infer_select-requires t c =
    let whole = whole_one (λ n x. select n c.in-Select.label x)
    (λ n x. refl) (rw c.in-Select.is at c.head.view_is) c.place_of-at.ensures c.deref-in-Select.ensures in (
      omega (arith, ap core_height whole, c.decreases),
      (c.requires.set_up, subst (λ e. IsReady (check_in c.args.scene) e c.args.context.now.variables) whole c.requires.ready),
    )

pub infer::infer_head-returns-in-Select-clause-typed : goal.infer::infer_head-returns-in-Select-clause-typed
infer::infer_head-returns-in-Select-clause-typed t c =
    let whole = whole_one (λ n x. select n c.in-Select.label x)
    (λ n x. refl) (rw c.in-Select.is at c.head.view_is) c.place_of-at.ensures c.deref-in-Select.ensures in
    typed_as (check_in c.args.scene) c.args.context.now c.infer_select.new.context c.infer_select.result
    (λ d. deriv_of d) whole c.infer_select.ensures.typed

pub infer::infer_head-returns-in-Select-clause-refused : goal.infer::infer_head-returns-in-Select-clause-refused
infer::infer_head-returns-in-Select-clause-refused t c =
    let whole = whole_one (λ n x. select n c.in-Select.label x)
    (λ n x. refl) (rw c.in-Select.is at c.head.view_is) c.place_of-at.ensures c.deref-in-Select.ensures in
    refused_as (check_in c.args.scene) c.args.context.now c.infer_select.result whole c.infer_select.ensures.refused

pub infer::infer_head-infer_fork-requires : goal.infer::infer_head-infer_fork-requires
infer::infer_head-infer_fork-requires t c =
    let whole = whole_one fork (λ n x. refl) (rw c.in-Fork.is at c.head.view_is) c.place_of-at.ensures
    c.deref-in-Fork.ensures in (
      omega (arith, ap core_height whole, c.decreases),
      (c.requires.set_up, subst (λ e. IsReady (check_in c.args.scene) e c.args.context.now.variables) whole c.requires.ready),
    )

pub infer::infer_head-returns-in-Fork-clause-typed : goal.infer::infer_head-returns-in-Fork-clause-typed
infer::infer_head-returns-in-Fork-clause-typed t c =
    let whole = whole_one fork (λ n x. refl) (rw c.in-Fork.is at c.head.view_is) c.place_of-at.ensures c.deref-in-Fork.ensures in
    typed_as (check_in c.args.scene) c.args.context.now c.infer_fork.new.context c.infer_fork.result
    (λ d. deriv_of d) whole c.infer_fork.ensures.typed

pub infer::infer_head-returns-in-Fork-clause-refused : goal.infer::infer_head-returns-in-Fork-clause-refused
infer::infer_head-returns-in-Fork-clause-refused t c =
    let whole = whole_one fork (λ n x. refl) (rw c.in-Fork.is at c.head.view_is) c.place_of-at.ensures c.deref-in-Fork.ensures in
    refused_as (check_in c.args.scene) c.args.context.now c.infer_fork.result whole c.infer_fork.ensures.refused

pub infer::infer_head-returns-in-Int-clause-typed : goal.infer::infer_head-returns-in-Int-clause-typed
infer::infer_head-returns-in-Int-clause-typed t c =
    let whole = whole_none (λ n. int n c.in-Int._number) (λ n. refl) (rw c.in-Int.is at c.head.view_is) c.place_of-at.ensures in
    subst (λ e. IsTyped (check_in c.args.scene) c.args.context.now c.args.context.now e (deriv_of c.plain_value.result))
    (sym whole) (int_typed (check_in c.args.scene) _ _ _ _ c.plain_value.ensures)

pub infer::infer_head-returns-in-Bool-clause-typed : goal.infer::infer_head-returns-in-Bool-clause-typed
infer::infer_head-returns-in-Bool-clause-typed t c =
    let whole = whole_none (λ n. bool n c.in-Bool._truth) (λ n. refl) (rw c.in-Bool.is at c.head.view_is) c.place_of-at.ensures in
    subst (λ e. IsTyped (check_in c.args.scene) c.args.context.now c.args.context.now e (deriv_of c.plain_value-in-Bool.result))
    (sym whole) (bool_typed (check_in c.args.scene) _ _ _ _ c.plain_value-in-Bool.ensures)

pub infer::infer_head-returns-in-Char-clause-typed : goal.infer::infer_head-returns-in-Char-clause-typed
infer::infer_head-returns-in-Char-clause-typed t c =
    let whole = whole_none (λ n. char n c.in-Char._character)
    (λ n. refl) (rw c.in-Char.is at c.head.view_is) c.place_of-at.ensures in
    subst (λ e. IsTyped (check_in c.args.scene) c.args.context.now c.args.context.now e (deriv_of c.plain_value-in-Char.result))
    (sym whole) (char_typed (check_in c.args.scene) _ _ _ _ c.plain_value-in-Char.ensures)

pub infer::infer_head-returns-in-Unit-clause-typed : goal.infer::infer_head-returns-in-Unit-clause-typed
infer::infer_head-returns-in-Unit-clause-typed t c =
    let whole = whole_none unit (λ n. refl) (rw c.in-Unit.is at c.head.view_is) c.place_of-at.ensures in
    subst (λ e. IsTyped (check_in c.args.scene) c.args.context.now c.args.context.now e (deriv_of c.plain_value-in-Unit.result))
    (sym whole) (unit_typed (check_in c.args.scene) _ _ _ c.plain_value-in-Unit.ensures)

pub infer_under::infer_under-infer-requires : goal.infer_under::infer_under-infer-requires
infer_under::infer_under-infer-requires t c =
    let e = c.in_ok-enter.ensures in (
      omega (arith, c.decreases),
      (
        c.requires.set_up,
        subst
            (λ z. IsReady (check_in c.args.scene) c.args.body.now z.variables) (sym e.2)
            (c.requires.ready (record { type = c.args.t; uses = e.0 } ∷ []) (refl, e.1, tt)),
      ),
    )

pub infer_under::infer_under-leave-requires : goal.infer_under::infer_under-leave-requires
infer_under::infer_under-leave-requires t c =
    let e = c.in_ok-enter.ensures in
    let same = ap (λ (z : Scope). length z.variables) (c.in_ok-d.ensures.typed.rest) in
    let long = ap (λ (z : Scope). length z.variables) e.2 in omega (arith, same, long)

pub infer_under::infer_under-returns-clause-typed : goal.infer_under::infer_under-returns-clause-typed
infer_under::infer_under-returns-clause-typed t c =
    let e = c.in_ok-enter.ensures in
    record {
      variables = record { type = c.args.t; uses = e.0 } ∷ [];
      types = (refl, e.1, tt);
      small = (c.requires.small, tt);
      long = refl;
      inner = c.infer.new.context;
      typed = subst (λ s. IsTyped (check_in c.args.scene) s c.infer.new.context c.args.body.now (deriv_of c.in_ok-d.d)) e.2
          c.in_ok-d.ensures.typed;
      used = c.in_ok-leave.ensures.used;
      left = c.in_ok-leave.ensures.left;
    }

pub infer_under::infer_under-returns-in_err-d-clause-refused : goal.infer_under::infer_under-returns-in_err-d-clause-refused
infer_under::infer_under-returns-in_err-d-clause-refused t c =
    let e = c.in_ok-enter.ensures in
    let p = err_from_is_err_and c.from_residual-in_err-d.result c.from_residual-in_err-d.ensures.1 in
    rw (p.1, p.2) (λ m. record {
      variables = record { type = c.args.t; uses = e.0 } ∷ [];
      small = (c.requires.small, tt);
      types =
          (refl, e.1, tt);
      long = refl;
      inside = inl (subst
          (λ s. Shows (check_in c.args.scene) c.args.body.now s c.in_err-d.field-0.0) e.2 (c.in_err-d.ensures.refused m));
    })

pub infer_under::infer_under-returns-in_err-leave-clause-refused :
    goal.infer_under::infer_under-returns-in_err-leave-clause-refused
infer_under::infer_under-returns-in_err-leave-clause-refused t c =
    let e = c.in_ok-enter.ensures in
    let p = err_from_is_err_and c.from_residual-in_err-leave.result c.from_residual-in_err-leave.ensures.1 in
    rw (p.1, p.2) (λ m. record {
      variables = record { type = c.args.t; uses = e.0 } ∷ [];
      small = (c.requires.small, tt);
      types =
          (refl, e.1, tt);
      long = refl;
      inside = inr (behind
          (subst (λ s. IsTyped (check_in c.args.scene) s c.infer.new.context c.args.body.now (deriv_of c.in_ok-d.d)) e.2
          c.in_ok-d.ensures.typed) (inl (c.in_err-leave.ensures.refused m)));
    })

pub infer_under::infer_under_two-infer-requires : goal.infer_under::infer_under_two-infer-requires
infer_under::infer_under_two-infer-requires t c =
    let e = c.in_ok-enter.ensures in
    let o = c.in_ok-enter-2.ensures in
    let both = o.2 ∙ ap (λ z. entered c.args.right.now.name (record { type = c.args.t; uses = o.0 }) z) e.2 in (
      omega (arith, c.decreases),
      (
        c.requires.set_up,
        subst
            (λ z. IsReady (check_in c.args.scene) c.args.body.now z.variables) (sym both)
            (c.requires.ready (record { type = c.args.s; uses = e.0 } ∷ record { type = c.args.t; uses = o.0 } ∷ [])
            (refl, e.1, (refl, o.1, tt))),
      ),
    )

pub infer_under::infer_under_two-leave_two-requires : goal.infer_under::infer_under_two-leave_two-requires
infer_under::infer_under_two-leave_two-requires t c =
    let e = c.in_ok-enter.ensures in
    let o = c.in_ok-enter-2.ensures in
    let both = o.2 ∙ ap (λ z. entered c.args.right.now.name (record { type = c.args.t; uses = o.0 }) z) e.2 in
    let same = ap (λ (z : Scope). length z.variables) (c.in_ok-d.ensures.typed.rest) in
    let long = ap (λ (z : Scope). length z.variables) both in omega (arith, same, long)

pub infer_under::infer_under_two-returns-clause-typed : goal.infer_under::infer_under_two-returns-clause-typed
infer_under::infer_under_two-returns-clause-typed t c =
    let e = c.in_ok-enter.ensures in
    let o = c.in_ok-enter-2.ensures in
    let both = o.2 ∙ ap (λ z. entered c.args.right.now.name (record { type = c.args.t; uses = o.0 }) z) e.2 in
    record {
      variables = (record { type = c.args.s; uses = e.0 } ∷ record { type = c.args.t; uses = o.0 } ∷ []);
      types = (refl, e.1, (refl, o.1, tt));
      small = (c.requires.left_small, (c.requires.right_small, tt));
      long = refl;
      inner = c.infer.new.context;
      typed = subst (λ s. IsTyped (check_in c.args.scene) s c.infer.new.context c.args.body.now (deriv_of c.in_ok-d.d)) both
          c.in_ok-d.ensures.typed;
      used = c.in_ok-leave_two.ensures.used;
      left = c.in_ok-leave_two.ensures.left;
    }

pub infer_under::infer_under_two-returns-in_err-d-clause-refused :
    goal.infer_under::infer_under_two-returns-in_err-d-clause-refused
infer_under::infer_under_two-returns-in_err-d-clause-refused t c =
    let e = c.in_ok-enter.ensures in
    let o = c.in_ok-enter-2.ensures in
    let both = o.2 ∙ ap (λ z. entered c.args.right.now.name (record { type = c.args.t; uses = o.0 }) z) e.2 in
    let p = err_from_is_err_and c.from_residual-in_err-d.result c.from_residual-in_err-d.ensures.1 in
    rw (p.1, p.2) (λ m. record {
      variables = record { type = c.args.s; uses = e.0 } ∷ record { type = c.args.t; uses = o.0 } ∷ [];
      small = (c.requires.left_small, (c.requires.right_small, tt));
      types =
          (refl, e.1, (refl, o.1, tt));
      long = refl;
      inside =
          inl (subst (λ s. Shows (check_in c.args.scene) c.args.body.now s c.in_err-d.field-0.0) both
          (c.in_err-d.ensures.refused m));
    })

pub infer_under::infer_under_two-returns-in_err-leave_two-clause-refused :
    goal.infer_under::infer_under_two-returns-in_err-leave_two-clause-refused
infer_under::infer_under_two-returns-in_err-leave_two-clause-refused t c =
    let e = c.in_ok-enter.ensures in
    let o = c.in_ok-enter-2.ensures in
    let both = o.2 ∙ ap (λ z. entered c.args.right.now.name (record { type = c.args.t; uses = o.0 }) z) e.2 in
    let p = err_from_is_err_and c.from_residual-in_err-leave_two.result c.from_residual-in_err-leave_two.ensures.1 in
    rw (p.1, p.2) (λ m. record {
      variables = record { type = c.args.s; uses = e.0 } ∷ record { type = c.args.t; uses = o.0 } ∷ [];
      small = (c.requires.left_small, (c.requires.right_small, tt));
      types =
          (refl, e.1, (refl, o.1, tt));
      long = refl;
      inside =
          inr (behind (subst (λ s. IsTyped (check_in c.args.scene) s c.infer.new.context c.args.body.now (deriv_of c.in_ok-d.d))
          both c.in_ok-d.ensures.typed) (inl (c.in_err-leave_two.ensures.refused m)));
    })

pub infer_under::infer_function-begin_function-requires : goal.infer_under::infer_function-begin_function-requires
infer_under::infer_function-begin_function-requires t c =
    c.requires.ready.range.0

pub infer_under::infer_function-type_at-requires : goal.infer_under::infer_function-type_at-requires
infer_under::infer_function-type_at-requires t c =
    c.requires.ready.range.0

pub infer_under::infer_function-infer_under-requires : goal.infer_under::infer_function-infer_under-requires
infer_under::infer_function-infer_under-requires t c =
    let known = same_Some c.requires.ready.formed.0.0 c.in_ok-from.from
    (sym c.requires.ready.formed.0.1 ∙ c.in_ok-from.ensures.from) in
    let formed = subst (IsFormed c.args.scene.vars.now) known c.requires.ready.formed.0.2 in
    let inner = ap (λ (s : Scope). s.variables) c.in_ok-from.ensures.begun ∙ inside_variables c.args.uses c.args.context.now in
    let ready = lambda_ready (check_in c.args.scene) c.args.at c.args.k c.args.uses c.args.binder.now c.args.body.now
    c.in_ok-from.from c.args.context.now.variables c.requires.ready c.in_ok-from.ensures.small in (
      omega (arith, c.decreases),
      (
        c.requires.set_up,
        (
          formed,
          (
            c.in_ok-from.ensures.small,
            subst (λ (g : List Variable). (vs : List Variable) → AreVariables c.args.scene.vars.now (c.in_ok-from.from ∷ []) vs →
                IsReady (check_in c.args.scene) c.args.body.now (enter_all vs g)) (sym inner) ready,
          ),
        ),
      ),
    )

pub infer_under::infer_function-end_body-requires : goal.infer_under::infer_function-end_body-requires
infer_under::infer_function-end_body-requires t c =
    λ m. let y = c.in_ok-d.ensures.typed in
    let begun : 0 < length c.begin_function.new.context.bodies = subst
    (λ (s : Scope). 0 < length s.bodies) (sym (c.in_ok-from.ensures.begun ∙ ap (λ u. inside u c.args.context.now) m))
    (omega arith) in
    let inner = subst (λ (s : Scope). 0 < length s.bodies) (sym y.typed.rest)
    (bodies_entered (c.args.binder.now ∷ []) y.variables c.begin_function.new.context begun) in
    subst (λ (s : Scope). 0 < length s.bodies) (sym y.left) (bodies_left (length (c.args.binder.now ∷ [])) y.inner inner)

pub infer_under::infer_function-returns-in_err-from-clause-refused :
    goal.infer_under::infer_function-returns-in_err-from-clause-refused
infer_under::infer_function-returns-in_err-from-clause-refused t c =
    let p = err_from_is_err_and c.from_residual.result c.from_residual.ensures.1 in
    rw (p.1, p.2) (λ m. let shown = c.in_err-from.ensures.refused m in (shown.0, shown.1, inl shown.2))

pub infer_under::infer_function-returns-in_err-d-clause-refused : goal.infer_under::infer_function-returns-in_err-d-clause-refused
infer_under::infer_function-returns-in_err-d-clause-refused t c =
    let p = err_from_is_err_and c.from_residual-in_err-d.result c.from_residual-in_err-d.ensures.1 in
    let f = c.in_err-d.field-0.0 in
    rw (p.1, p.2) (λ m. (
      c.in_ok-from.from,
      c.in_ok-from.ensures.from,
      inr (under_more (subst (λ s. Under (check_in c.args.scene) (c.args.binder.now ∷ [])
          (c.in_ok-from.from ∷ []) c.args.body.now s (λ z. Shows (check_in c.args.scene) c.args.body.now z f) NoMore f)
          c.in_ok-from.ensures.begun (c.in_err-d.ensures.refused m))),
    ))

pub infer_under::infer_function-returns-clause-refused : goal.infer_under::infer_function-returns-clause-refused
infer_under::infer_function-returns-clause-refused t c =
    let x = c.args.binder.now ∷ [] in
    let from = c.type_at.result.now in
    let same = same_Some c.in_ok-from.from from (sym c.in_ok-from.ensures.from ∙ c.type_at.ensures) in
    let found = subst (λ o. IsTypedUnder (check_in c.args.scene) x
    (o ∷ []) c.begin_function.new.context c.infer_under.new.context c.args.body.now (deriv_of c.in_ok-d.d)) same
    c.in_ok-d.ensures.typed in
    let typed = subst (λ s. IsTypedUnder (check_in c.args.scene) x (from ∷ []) s c.infer_under.new.context c.args.body.now
    (deriv_of c.in_ok-d.d)) c.in_ok-from.ensures.begun found in
    IfErr-weaker c.function_row.result (λ f. IsShown f
    (IsTooLargeAt c.args.at (arrow c.args.uses from (type_of (deriv_of c.in_ok-d.d))) f))
    (λ f. IsRefused (check_in c.args.scene) (lambda c.args.at c.args.uses c.args.k c.args.binder.now c.args.body.now)
    c.args.context.now f)
    (λ f y m. (from, c.type_at.ensures, inr (behind_under typed (y m)))) c.function_row.ensures.refused

pub infer_under::infer_function-returns-clause-typed : goal.infer_under::infer_function-returns-clause-typed
infer_under::infer_function-returns-clause-typed t c =
    let x = c.args.binder.now ∷ [] in
    let from = c.type_at.result.now in
    let same = same_Some c.in_ok-from.from from (sym c.in_ok-from.ensures.from ∙ c.type_at.ensures) in
    let found = subst (λ o. IsTypedUnder (check_in c.args.scene) x
    (o ∷ []) c.begin_function.new.context c.infer_under.new.context c.args.body.now (deriv_of c.in_ok-d.d)) same
    c.in_ok-d.ensures.typed in
    let typed = subst (λ s. IsTypedUnder (check_in c.args.scene) x (from ∷ []) s c.infer_under.new.context c.args.body.now
    (deriv_of c.in_ok-d.d)) c.in_ok-from.ensures.begun found in
    both_ok c.function_row.result (λ w. deriv_of w ≡ row (arrow c.args.uses from (type_of (deriv_of c.in_ok-d.d)))
    (one (deriv_of c.in_ok-d.d))) (λ w. IsInSize (type_of (deriv_of w))) _
    (λ w e n. function_typed (check_in c.args.scene) _ _ _ _ _ _ _ from _ _ _ _ typed c.end_body.ensures c.type_at.ensures refl e
    n) c.function_row.ensures.made c.function_row.ensures.small

pub infer_under::infer_let-infer-requires : goal.infer_under::infer_let-infer-requires
infer_under::infer_let-infer-requires t c =
    (omega (arith, c.decreases), (c.requires.set_up, let_first_ready (check_in c.args.scene) _ _ _ _ _ c.requires.ready))

pub infer_under::infer_let-infer_under-requires : goal.infer_under::infer_let-infer_under-requires
infer_under::infer_let-infer_under-requires t c =
    let small = subst IsInSize (sym (c.in_ok-t.ensures ∙ c.type_of.ensures)) c.in_ok-d.ensures.typed.fact.small in (
      omega (arith, c.decreases),
      (
        c.requires.set_up,
        (
          subst (IsFormed c.args.scene.vars.now) (sym (c.in_ok-t.ensures ∙ c.type_of.ensures))
              c.in_ok-d.ensures.typed.fact.formed,
          (small, let_ready (check_in c.args.scene) _ _ _ _ _ _ _ _ c.requires.ready c.in_ok-d.ensures.typed small),
        ),
      ),
    )

pub infer_under::infer_let-returns-in_err-d-clause-refused : goal.infer_under::infer_let-returns-in_err-d-clause-refused
infer_under::infer_let-returns-in_err-d-clause-refused t c =
    let p = err_from_is_err_and c.from_residual.result c.from_residual.ensures.1 in
    rw (p.1, p.2) (λ m. inl (c.in_err-d.ensures.refused m))

pub infer_under::infer_let-returns-in_err-h-clause-refused : goal.infer_under::infer_let-returns-in_err-h-clause-refused
infer_under::infer_let-returns-in_err-h-clause-refused t c =
    let p = err_from_is_err_and c.from_residual-in_err-h.result c.from_residual-in_err-h.ensures.1 in
    rw (p.1, p.2) (λ m. inr (behind c.in_ok-d.ensures.typed
    (subst (λ o. Under (check_in c.args.scene) (c.args.binder.now ∷ []) (o ∷ []) c.args.second.now c.infer.new.context
    (λ z. Shows (check_in c.args.scene) c.args.second.now z c.in_err-h.field-0.0) NoMore c.in_err-h.field-0.0)
    (c.in_ok-t.ensures ∙ c.type_of.ensures) (c.in_err-h.ensures.refused m))))

pub infer_under::infer_let-returns-clause-typed : goal.infer_under::infer_let-returns-clause-typed
infer_under::infer_let-returns-clause-typed t c =
    let_typed (check_in c.args.scene) _ _ _ _ _ _ _ _ _ _ _ c.in_ok-d.ensures.typed c.in_ok-h.ensures.typed
    (c.in_ok-t.ensures ∙ c.type_of.ensures) c.in_ok-sequence.ensures

pub infer_under::infer_split-infer-requires : goal.infer_under::infer_split-infer-requires
infer_under::infer_split-infer-requires t c =
    (omega (arith, c.decreases), (c.requires.set_up, split_first_ready (check_in c.args.scene) _ _ _ _ _ _ c.requires.ready))

pub infer_under::infer_split-infer_under_two-requires : goal.infer_under::infer_split-infer_under_two-requires
infer_under::infer_split-infer_under_two-requires t c =
    let both = pair_formed c.args.scene.vars.now c.in_ok-parts.parts.0 c.in_ok-parts.parts.1
    (subst (IsFormed c.args.scene.vars.now) (sym c.type_of.ensures ∙ c.in_ok-parts.ensures.ok)
    c.in_ok-d.ensures.typed.fact.formed) in
    let small = pair_small c.in_ok-parts.parts.0 c.in_ok-parts.parts.1
    (subst IsInSize (sym c.type_of.ensures ∙ c.in_ok-parts.ensures.ok) c.in_ok-d.ensures.typed.fact.small) in (
      omega (arith, c.decreases),
      (
        c.requires.set_up,
        (
          both.0,
          (
            both.1,
            (
              small.0,
              (
                small.1,
                split_ready
                    (check_in c.args.scene) _ _ _ _ _ _ _ _ _ _ c.requires.ready c.in_ok-d.ensures.typed small.0 small.1,
              ),
            ),
          ),
        ),
      ),
    )

pub infer_under::infer_split-returns-in_err-d-clause-refused : goal.infer_under::infer_split-returns-in_err-d-clause-refused
infer_under::infer_split-returns-in_err-d-clause-refused t c =
    let p = err_from_is_err_and c.from_residual.result c.from_residual.ensures.1 in
    rw (p.1, p.2) (λ m. inl (c.in_err-d.ensures.refused m))

pub infer_under::infer_split-returns-in_err-parts-clause-refused :
    goal.infer_under::infer_split-returns-in_err-parts-clause-refused
infer_under::infer_split-returns-in_err-parts-clause-refused t c =
    let p = err_from_is_err_and c.from_residual-in_err-parts.result c.from_residual-in_err-parts.ensures.1 in
    rw (p.1, p.2) (λ m. inr (behind c.in_ok-d.ensures.typed
    (inl (subst (λ n. ShowsNoPair n (type_of (deriv_of c.in_ok-d.d)) c.in_err-parts.field-0.0) c.place_of.ensures
    (subst (λ o. ShowsNoPair c.place_of.result o c.in_err-parts.field-0.0) c.type_of.ensures
    (c.in_err-parts.ensures.err m))))))

pub infer_under::infer_split-returns-in_err-h-clause-refused : goal.infer_under::infer_split-returns-in_err-h-clause-refused
infer_under::infer_split-returns-in_err-h-clause-refused t c =
    let p = err_from_is_err_and c.from_residual-in_err-h.result c.from_residual-in_err-h.ensures.1 in
    rw (p.1, p.2) (λ m. inr (behind c.in_ok-d.ensures.typed
    (inr (
      c.in_ok-parts.parts.0,
      c.in_ok-parts.parts.1,
      (sym c.type_of.ensures ∙ c.in_ok-parts.ensures.ok),
      c.in_err-h.ensures.refused m,
    ))))

pub infer_under::infer_split-returns-clause-typed : goal.infer_under::infer_split-returns-clause-typed
infer_under::infer_split-returns-clause-typed t c =
    split_typed (check_in c.args.scene) _ _ _ _ _ _ _ _ _ _ _ _ _ c.in_ok-d.ensures.typed c.in_ok-h.ensures.typed
    (sym c.type_of.ensures ∙ c.in_ok-parts.ensures.ok) c.in_ok-sequence.ensures

pub infer_arms::infer_fields_arm-enter_fields-requires-clause-long :
    goal.infer_arms::infer_fields_arm-enter_fields-requires-clause-long
infer_arms::infer_fields_arm-enter_fields-requires-clause-long t c =
    ap (λ (xs : List Binder). length xs) c.deref.ensures.value ∙ c.requires.long

pub infer_arms::infer_fields_arm-enter_fields-requires-clause-there :
    goal.infer_arms::infer_fields_arm-enter_fields-requires-clause-there
infer_arms::infer_fields_arm-enter_fields-requires-clause-there t c =
    (c.requires.ready.0, c.requires.ready.1, c.requires.ready.2)

pub infer_arms::infer_fields_arm-infer-requires : goal.infer_arms::infer_fields_arm-infer-requires
infer_arms::infer_fields_arm-infer-requires t c =
    let e = c.in_ok-enter_fields.ensures.entered c.requires.ready.0 c.requires.ready.1 in
    let entered = e.4 ∙ ap (λ xs. entered_all xs e.0 c.args.context.now) c.deref.ensures.value in
    let long = ap (λ (xs : List Binder). length xs) (sym c.deref.ensures.value) ∙ e.3 in
    let variables = ap (λ (z : Scope). z.variables) entered
    ∙ entered_variables c.args.arm.now.binders.items e.0 c.args.context.now long in (
      omega (arith, c.decreases),
      (
        c.requires.set_up,
        subst (IsReady (check_in c.args.scene) c.args.arm.now.body) (sym variables) (c.requires.ready.3 e.2 e.0 e.1),
      ),
    )

pub infer_arms::infer_fields_arm-leave_all-requires : goal.infer_arms::infer_fields_arm-leave_all-requires
infer_arms::infer_fields_arm-leave_all-requires t c =
    let e = c.in_ok-enter_fields.ensures.entered c.requires.ready.0 c.requires.ready.1 in
    let entered = e.4 ∙ ap (λ xs. entered_all xs e.0 c.args.context.now) c.deref.ensures.value in
    let long = ap (λ (xs : List Binder). length xs) (sym c.deref.ensures.value) ∙ e.3 in
    let variables = ap (λ (z : Scope). z.variables) entered
    ∙ entered_variables c.args.arm.now.binders.items e.0 c.args.context.now long in
    let same = ap (λ (z : Scope). length z.variables) c.in_ok-d.ensures.typed.rest in
    let many = ap (λ (vs : List Variable). length vs) variables in
    let names = ap (λ (xs : List Binder). length xs) c.deref-2.ensures.value in
    omega (arith, same, many, enter_length e.0 c.args.context.now.variables, long, names)

pub infer_arms::infer_fields_arm-returns-in_err-enter_fields-clause-refused :
    goal.infer_arms::infer_fields_arm-returns-in_err-enter_fields-clause-refused
infer_arms::infer_fields_arm-returns-in_err-enter_fields-clause-refused t c =
    let p = err_from_is_err_and c.from_residual.result c.from_residual.ensures.1 in
    rw (p.1, p.2) (λ ts at m. inl (subst (λ xs. IsLargeBinder xs ts c.in_err-enter_fields.field-0.0) c.deref.ensures.value
    (c.in_err-enter_fields.ensures.refused ts at m)))

pub infer_arms::infer_fields_arm-returns-in_err-d-clause-refused :
    goal.infer_arms::infer_fields_arm-returns-in_err-d-clause-refused
infer_arms::infer_fields_arm-returns-in_err-d-clause-refused t c =
    let p = err_from_is_err_and c.from_residual-in_err-d.result c.from_residual-in_err-d.ensures.1 in
    rw (p.1, p.2) (λ ts at m. let e = c.in_ok-enter_fields.ensures.entered ts at in
    let entered = e.4 ∙ ap (λ xs. entered_all xs e.0 c.args.context.now) c.deref.ensures.value in
    let long = ap (λ (xs : List Binder). length xs) (sym c.deref.ensures.value) ∙ e.3 in
    let variables = ap (λ (z : Scope). z.variables) entered
    ∙ entered_variables c.args.arm.now.binders.items e.0 c.args.context.now long in
    inr (record {
      variables = e.0;
      small = e.2;
      types = e.1;
      long = long;
      inside =
          inl (subst (λ s. Shows (check_in c.args.scene) c.args.arm.now.body s c.in_err-d.field-0.0) entered
          (c.in_err-d.ensures.refused m));
    }))

pub infer_arms::infer_fields_arm-returns-in_err-leave_all-clause-refused :
    goal.infer_arms::infer_fields_arm-returns-in_err-leave_all-clause-refused
infer_arms::infer_fields_arm-returns-in_err-leave_all-clause-refused t c =
    let p = err_from_is_err_and c.from_residual-in_err-leave_all.result c.from_residual-in_err-leave_all.ensures.1 in
    rw (p.1, p.2) (λ ts at m. let e = c.in_ok-enter_fields.ensures.entered ts at in
    let entered = e.4 ∙ ap (λ xs. entered_all xs e.0 c.args.context.now) c.deref.ensures.value in
    let long = ap (λ (xs : List Binder). length xs) (sym c.deref.ensures.value) ∙ e.3 in
    let variables = ap (λ (z : Scope). z.variables) entered
    ∙ entered_variables c.args.arm.now.binders.items e.0 c.args.context.now long in
    let inner = subst (λ s. IsTyped (check_in c.args.scene) s c.infer.new.context c.args.arm.now.body (deriv_of c.in_ok-d.d))
    entered c.in_ok-d.ensures.typed in
    inr (record {
      variables = e.0;
      small = e.2;
      types = e.1;
      long = long;
      inside =
          inr (behind inner (inl (subst (λ xs. ShowsUnused c.infer.new.context xs c.in_err-leave_all.field-0.0)
          c.deref-2.ensures.value (c.in_err-leave_all.ensures.refused m))));
    }))

pub infer_arms::infer_fields_arm-returns-clause-typed : goal.infer_arms::infer_fields_arm-returns-clause-typed
infer_arms::infer_fields_arm-returns-clause-typed t c =
    λ ts at. let e = c.in_ok-enter_fields.ensures.entered ts at in
    let entered = e.4 ∙ ap (λ xs. entered_all xs e.0 c.args.context.now) c.deref.ensures.value in
    let long = ap (λ (xs : List Binder). length xs) (sym c.deref.ensures.value) ∙ e.3 in
    let variables = ap (λ (z : Scope). z.variables) entered
    ∙ entered_variables c.args.arm.now.binders.items e.0 c.args.context.now long in
    let inner = subst (λ s. IsTyped (check_in c.args.scene) s c.infer.new.context c.args.arm.now.body (deriv_of c.in_ok-d.d))
    entered c.in_ok-d.ensures.typed in
    let names = ap (λ (xs : List Binder). length xs) c.deref-2.ensures.value in
    record {
      variables = e.0;
      types = e.1;
      small = e.2;
      long = long;
      inner = c.infer.new.context;
      typed = inner;
      used = subst (λ n. AreUsed n c.infer.new.context) names c.in_ok-leave_all.ensures.used;
      left = c.in_ok-leave_all.ensures.left ∙ ap (λ n. left_all n c.infer.new.context) names;
    }

pub infer_arms::infer_rest_arm-offered-requires : goal.infer_arms::infer_rest_arm-offered-requires
infer_arms::infer_rest_arm-offered-requires t c =
    subst IsSome (sym c.requires.ready.binds.1) refl

pub infer_arms::infer_rest_arm-index-binder-requires : goal.infer_arms::infer_rest_arm-index-binder-requires
infer_arms::infer_rest_arm-index-binder-requires t c =
    let many = c.requires.ready.long ∙ ap (λ (ts : List Tree). length ts) c.requires.ready.binds.2 in
    omega (arith, many)

pub infer_arms::infer_rest_arm-infer_under-requires : goal.infer_arms::infer_rest_arm-infer_under-requires
infer_arms::infer_rest_arm-infer_under-requires t c =
    let types = c.requires.ready.binds.2 ∙ ap (λ x. x ∷ [])
    (same_Some c.requires.ready.binds.0 c.in_ok-next.next (sym c.requires.ready.binds.1 ∙ c.in_ok-next.ensures.offered)) in (
      omega (arith, c.decreases),
      (
        c.requires.set_up,
        (
          (subst (AreFormed c.args.scene.vars.now) types c.requires.ready.formed).0,
          (
            c.in_ok-next.ensures.small,
            λ vs a. c.requires.ready.body
                (subst AreInSize (sym types) (c.in_ok-next.ensures.small, tt)) vs
                (subst (λ ts. AreVariables c.args.scene.vars.now ts vs) (sym types) a),
          ),
        ),
      ),
    )

pub infer_arms::infer_rest_arm-returns-in_err-next-clause-refused :
    goal.infer_arms::infer_rest_arm-returns-in_err-next-clause-refused
infer_arms::infer_rest_arm-returns-in_err-next-clause-refused t c =
    let one = one_binder c.args.arm.now.binders.items c.index-binder.result.now
    (c.requires.ready.long ∙ ap (λ (ts : List Tree). length ts) c.requires.ready.binds.2) c.index-binder.ensures in
    let p = err_from_is_err_and c.from_residual.result c.from_residual.ensures.1 in
    rw (p.1, p.2) (λ m. let shown = c.in_err-next.ensures.refused m in (
      shown.0 ∷ [],
      (shown.0, shown.1, refl),
      inl
          (subst (λ xs. IsLargeBinder xs (shown.0 ∷ []) c.in_err-next.field-0.0) (sym one) (inl shown.2)),
    ))

pub infer_arms::infer_rest_arm-returns-clause-typed : goal.infer_arms::infer_rest_arm-returns-clause-typed
infer_arms::infer_rest_arm-returns-clause-typed t c =
    let one = one_binder c.args.arm.now.binders.items c.index-binder.result.now
    (c.requires.ready.long ∙ ap (λ (ts : List Tree). length ts) c.requires.ready.binds.2) c.index-binder.ensures in
    IfOk-weaker c.infer_under.result (λ d. IsTypedUnder (check_in c.args.scene) (c.index-binder.result.now ∷ [])
    (c.in_ok-next.next ∷ []) c.args.context.now c.infer_under.new.context c.args.arm.now.body (deriv_of d))
    (λ d. IsArmTyped (check_in c.args.scene) (rest c.args.t.now) c.args.arm.now.label c.args.arm.now.binders.items
    c.args.context.now c.infer_under.new.context c.args.arm.now.body (deriv_of d))
    (λ d y. record {
      types = c.in_ok-next.next ∷ [];
      binds =
          (c.in_ok-next.next, c.in_ok-next.ensures.offered, refl);
      typed = subst
          (λ xs. IsTypedUnder (check_in c.args.scene) xs
          (c.in_ok-next.next ∷ []) c.args.context.now c.infer_under.new.context c.args.arm.now.body (deriv_of d)) (sym one) y;
    })
    c.infer_under.ensures.typed

pub infer_arms::infer_rest_arm-returns-clause-refused : goal.infer_arms::infer_rest_arm-returns-clause-refused
infer_arms::infer_rest_arm-returns-clause-refused t c =
    let one = one_binder c.args.arm.now.binders.items c.index-binder.result.now
    (c.requires.ready.long ∙ ap (λ (ts : List Tree). length ts) c.requires.ready.binds.2) c.index-binder.ensures in
    IfErr-weaker c.infer_under.result (λ f. IsShown f
    (Under (check_in c.args.scene) (c.index-binder.result.now ∷ [])
    (c.in_ok-next.next ∷ []) c.args.arm.now.body c.args.context.now
    (λ z. Shows (check_in c.args.scene) c.args.arm.now.body z f) NoMore f))
    (λ f. IsShown f (ShowsArm (check_in c.args.scene)
    (rest c.args.t.now) c.args.arm.now.label c.args.arm.now.binders.items c.args.arm.now.body c.args.context.now f))
    (λ f y m. (
      c.in_ok-next.next ∷ [],
      (c.in_ok-next.next, c.in_ok-next.ensures.offered, refl),
      inr (subst (λ xs. Under (check_in c.args.scene) xs (c.in_ok-next.next ∷ []) c.args.arm.now.body c.args.context.now
          (λ z. Shows (check_in c.args.scene) c.args.arm.now.body z f) NoMore f) (sym one) (y m)),
    )) c.infer_under.ensures.refused

pub infer_arms::infer_arm-bounds-numbers-number : goal.infer_arms::infer_arm-bounds-numbers-number
infer_arms::infer_arm-bounds-numbers-number t c =
    (subst (λ b. IsNumbered b c.args.number c.args.arm.now.label) c.in-Fields.is c.requires.numbered).0

pub infer_arms::infer_arm-bounds-makers-numbers : goal.infer_arms::infer_arm-bounds-makers-numbers
infer_arms::infer_arm-bounds-makers-numbers t c =
    (subst (λ b. IsNumbered b c.args.number c.args.arm.now.label) c.in-Fields.is c.requires.numbered).1

pub infer_arms::infer_arm-infer_fields_arm-requires : goal.infer_arms::infer_arm-infer_fields_arm-requires
infer_arms::infer_arm-infer_fields_arm-requires t c =
    let arm = fields_arm (check_in c.args.scene) c.in-Fields.makers.now
    (get_or c.in-Fields.numbers.now c.args.number 0) c.index-makers-numbers.result c.deref.result.now c.args.arm.now.label
    c.args.arm.now.binders.items c.args.arm.now.body c.args.context.now.variables
    (subst (λ b. IsArmReady (check_in c.args.scene)
    (binding_of b) c.args.arm.now.label c.args.arm.now.binders.items c.args.arm.now.body c.args.context.now.variables)
    c.in-Fields.is c.requires.ready) (subst (λ b. IsNumbered b c.args.number c.args.arm.now.label) c.in-Fields.is
    c.requires.numbered).1 (subst (λ b. IsNumbered b c.args.number c.args.arm.now.label) c.in-Fields.is c.requires.numbered).2
    c.index-makers-numbers.is (c.deref.ensures.value ∙ ap (λ (p : Maker). p.fields.items) (sym c.index-makers-numbers.is)) in
    (omega (arith, c.decreases), (c.requires.set_up, (arm.long, (arm.types, arm.at, arm.formed, arm.body))))

pub infer_arms::infer_arm-infer_rest_arm-requires : goal.infer_arms::infer_arm-infer_rest_arm-requires
infer_arms::infer_arm-infer_rest_arm-requires t c = (
  omega (arith, c.decreases),
  (
    c.requires.set_up,
    subst
        (λ b. IsArmReady (check_in c.args.scene) (binding_of b) c.args.arm.now.label c.args.arm.now.binders.items
        c.args.arm.now.body c.args.context.now.variables) c.in-Rest.is c.requires.ready,
  ),
)

pub infer_arms::infer_arm-returns-in-Fields-clause-typed : goal.infer_arms::infer_arm-returns-in-Fields-clause-typed
infer_arms::infer_arm-returns-in-Fields-clause-typed t c =
    let arm = fields_arm (check_in c.args.scene) c.in-Fields.makers.now
    (get_or c.in-Fields.numbers.now c.args.number 0) c.index-makers-numbers.result c.deref.result.now c.args.arm.now.label
    c.args.arm.now.binders.items c.args.arm.now.body c.args.context.now.variables
    (subst (λ b. IsArmReady (check_in c.args.scene)
    (binding_of b) c.args.arm.now.label c.args.arm.now.binders.items c.args.arm.now.body c.args.context.now.variables)
    c.in-Fields.is c.requires.ready) (subst (λ b. IsNumbered b c.args.number c.args.arm.now.label) c.in-Fields.is
    c.requires.numbered).1 (subst (λ b. IsNumbered b c.args.number c.args.arm.now.label) c.in-Fields.is c.requires.numbered).2
    c.index-makers-numbers.is (c.deref.ensures.value ∙ ap (λ (p : Maker). p.fields.items) (sym c.index-makers-numbers.is)) in
    rw c.in-Fields.is (IfOk-weaker c.infer_fields_arm.result
    (λ d. (ts : List Tree) → AreAt c.args.scene.module.now.types.items c.deref.result.now ts →
    IsTypedUnder (check_in c.args.scene) c.args.arm.now.binders.items ts c.args.context.now c.infer_fields_arm.new.context
    c.args.arm.now.body (deriv_of d)) (λ d. IsArmTyped (check_in c.args.scene)
    (fields c.in-Fields.makers.now) c.args.arm.now.label c.args.arm.now.binders.items c.args.context.now
    c.infer_fields_arm.new.context c.args.arm.now.body (deriv_of d))
    (λ d y. record { types = arm.types; binds = arm.binds; typed = y arm.types arm.at }) c.infer_fields_arm.ensures.typed)

pub infer_arms::infer_arm-returns-in-Fields-clause-refused : goal.infer_arms::infer_arm-returns-in-Fields-clause-refused
infer_arms::infer_arm-returns-in-Fields-clause-refused t c =
    let arm = fields_arm (check_in c.args.scene) c.in-Fields.makers.now
    (get_or c.in-Fields.numbers.now c.args.number 0) c.index-makers-numbers.result c.deref.result.now c.args.arm.now.label
    c.args.arm.now.binders.items c.args.arm.now.body c.args.context.now.variables
    (subst (λ b. IsArmReady (check_in c.args.scene)
    (binding_of b) c.args.arm.now.label c.args.arm.now.binders.items c.args.arm.now.body c.args.context.now.variables)
    c.in-Fields.is c.requires.ready) (subst (λ b. IsNumbered b c.args.number c.args.arm.now.label) c.in-Fields.is
    c.requires.numbered).1 (subst (λ b. IsNumbered b c.args.number c.args.arm.now.label) c.in-Fields.is c.requires.numbered).2
    c.index-makers-numbers.is (c.deref.ensures.value ∙ ap (λ (p : Maker). p.fields.items) (sym c.index-makers-numbers.is)) in
    rw c.in-Fields.is (IfErr-weaker c.infer_fields_arm.result
    (λ f. (ts : List Tree) → AreAt c.args.scene.module.now.types.items c.deref.result.now ts →
    IsShown f (IsLargeBinder c.args.arm.now.binders.items ts f ⊎
    Under (check_in c.args.scene) c.args.arm.now.binders.items ts c.args.arm.now.body c.args.context.now
    (λ z. Shows (check_in c.args.scene) c.args.arm.now.body z f) NoMore f))
    (λ f. IsShown f (ShowsArm (check_in c.args.scene)
    (fields c.in-Fields.makers.now) c.args.arm.now.label c.args.arm.now.binders.items c.args.arm.now.body c.args.context.now
    f)) (λ f y m. (arm.types, arm.binds, y arm.types arm.at m)) c.infer_fields_arm.ensures.refused)

pub infer_arms::infer_arm-returns-in-Rest-clause-typed : goal.infer_arms::infer_arm-returns-in-Rest-clause-typed
infer_arms::infer_arm-returns-in-Rest-clause-typed t c =
    rw c.in-Rest.is c.infer_rest_arm.ensures.typed

pub infer_arms::infer_arm-returns-in-Rest-clause-refused : goal.infer_arms::infer_arm-returns-in-Rest-clause-refused
infer_arms::infer_arm-returns-in-Rest-clause-refused t c =
    rw c.in-Rest.is c.infer_rest_arm.ensures.refused

pub infer_arms::infer_further-infer_arm-requires : goal.infer_arms::infer_further-infer_arm-requires
infer_arms::infer_further-infer_arm-requires t c =
    let high = core_arms_height_at c.args.arms.now c.loop-i.i c.index-arms-i.result c.loop-i-test.true in
    let is = ap (λ (b : Arm). core_height b.body) c.index-arms-i.is in (
      omega (arith, high, is, c.decreases),
      (
        c.requires.set_up,
        (
          c.requires.numbered c.loop-i.i c.index-arms-i.result c.loop-i-test.true c.index-arms-i.is,
          subst (λ (s : Scope). IsArmReady (check_in c.args.scene)
              (binding_of c.args.binding) c.index-arms-i.result.label c.index-arms-i.result.binders.items
              c.index-arms-i.result.body s.variables) (sym c.loop-i.invariant.1)
              (arm_ready (check_in c.args.scene) (binding_of c.args.binding) c.args.arms.now c.loop-i.i c.index-arms-i.result
              c.args.context.now c.loop-i.invariant.0.ready c.loop-i-test.true c.index-arms-i.is),
        ),
      ),
    )

pub infer_arms::infer_further-loop-i-init : goal.infer_arms::infer_further-loop-i-init
infer_arms::infer_further-loop-i-init t c = (
  row_begin (check_in c.args.scene) (binding_of c.args.binding) c.args.arms.now c.args.value c.args.first c.args.context.now
      (with_marks (reverse c.args.after.now) c.args.context.now) c.in_ok-parts.parts.items c.args.t.now c.requires.ready
      c.requires.first c.requires.wanted c.in_ok-parts.ensures,
  refl,
  c.in_ok-before.ensures,
)

pub infer_arms::infer_further-loop-i-preserved : goal.infer_arms::infer_further-loop-i-preserved
infer_arms::infer_further-loop-i-preserved t c =
    let typed = subst (λ s. IsArmTyped (check_in c.args.scene)
    (binding_of c.args.binding) c.index-arms-i.result.label c.index-arms-i.result.binders.items s c.infer_arm.new.context
    c.index-arms-i.result.body (deriv_of c.in_ok-d.d)) c.loop-i.invariant.1 c.in_ok-d.ensures.typed in
    let takes = arm_takes (check_in c.args.scene)
    (binding_of c.args.binding) c.index-arms-i.result c.args.context.now c.infer_arm.new.context
    (deriv_of c.in_ok-d.d) typed in
    let all = row_takes (check_in c.args.scene) (binding_of c.args.binding) c.args.arms.now c.loop-i.i c.args.context.now
    (with_marks (reverse c.args.after.now) c.args.context.now)
    (deriv_of c.args.value) c.args.t.now c.loop-i.parts.items c.loop-i.invariant.0 in
    let same = marks_decide takes.used all.used c.args.context.now c.infer_arm.new.context
    (with_marks (reverse c.args.after.now) c.args.context.now) takes.rest all.rest c.in_ok-joined.ensures.same in
    let again = ap (λ (bs : List Bool). reverse bs) (c.in_ok-again.ensures.items ∙ c.deref.ensures.value)
    ∙ c.loop-i.invariant.2 in (
      row_step (check_in c.args.scene) (binding_of c.args.binding) c.args.arms.now c.loop-i.i c.index-arms-i.result
          (deriv_of c.in_ok-d.d) c.in_ok-joined.field-0 c.args.t.now c.args.context.now c.infer_arm.new.context
          (with_marks (reverse c.args.after.now) c.args.context.now)
          (deriv_of c.args.value) c.loop-i.parts.items c.push.new.self.items c.loop-i.invariant.0 c.loop-i-test.true
          c.index-arms-i.is typed same c.in_ok-joined.ensures.known c.in_ok-joined.ensures.turned c.in_ok-push.ensures.items,
      c.exchange.ensures.after ∙ ap (λ b. with_marks b c.infer_arm.new.context) again
          ∙ marks_back takes.used c.args.context.now c.infer_arm.new.context takes.rest,
      c.loop-i.invariant.2,
    )

pub infer_arms::infer_further-returns-clause-typed : goal.infer_arms::infer_further-returns-clause-typed
infer_arms::infer_further-returns-clause-typed t c =
    let done = all_seen (check_in c.args.scene) (binding_of c.args.binding) c.args.arms.now c.loop-i.i c.args.context.now
    (with_marks (reverse c.args.after.now) c.args.context.now)
    (deriv_of c.args.first) c.requires.first c.loop-i-test.false c.loop-i.auto.i-end in
    row_end (check_in c.args.scene) (binding_of c.args.binding) c.args.arms.now c.args.context.now
    (with_marks (reverse c.args.after.now) c.args.context.now) (deriv_of c.args.value)
    (row c.args.t.now (parts_of c.loop-i.parts.items)) c.args.t.now c.loop-i.parts.items
    (subst (λ n. RowSoFar (check_in c.args.scene) (binding_of c.args.binding) c.args.arms.now n c.args.context.now
    (with_marks (reverse c.args.after.now) c.args.context.now) (deriv_of c.args.value) c.args.t.now c.loop-i.parts.items) done
    c.loop-i.invariant.0) refl

pub infer_arms::infer_further-returns-clause-here : goal.infer_arms::infer_further-returns-clause-here
infer_arms::infer_further-returns-clause-here t c =
    c.loop-i.invariant.1

pub infer_arms::infer_further-returns-in_err-d-clause-refused : goal.infer_arms::infer_further-returns-in_err-d-clause-refused
infer_arms::infer_further-returns-in_err-d-clause-refused t c =
    let p = err_from_is_err_and c.from_residual-in_err-d.result c.from_residual-in_err-d.ensures.1 in
    rw (p.1, p.2) (λ m. further_refused (check_in c.args.scene)
    (binding_of c.args.binding) c.args.arms.now c.loop-i.i c.index-arms-i.result c.args.context.now
    (with_marks (reverse c.args.after.now) c.args.context.now) c.args.t.now
    (deriv_of c.args.value) c.loop-i.parts.items c.in_err-d.field-0.0 c.loop-i.invariant.0 c.loop-i-test.true
    c.index-arms-i.is (subst (λ s. ShowsArm (check_in c.args.scene)
    (binding_of c.args.binding) c.index-arms-i.result.label c.index-arms-i.result.binders.items c.index-arms-i.result.body s
    c.in_err-d.field-0.0) c.loop-i.invariant.1 (c.in_err-d.ensures.refused m)))

pub infer_arms::infer_further-returns-in_err-joined-clause-refused :
    goal.infer_arms::infer_further-returns-in_err-joined-clause-refused
infer_arms::infer_further-returns-in_err-joined-clause-refused t c =
    let typed = subst (λ s. IsArmTyped (check_in c.args.scene)
    (binding_of c.args.binding) c.index-arms-i.result.label c.index-arms-i.result.binders.items s c.infer_arm.new.context
    c.index-arms-i.result.body (deriv_of c.in_ok-d.d)) c.loop-i.invariant.1 c.in_ok-d.ensures.typed in
    let takes = arm_takes (check_in c.args.scene)
    (binding_of c.args.binding) c.index-arms-i.result c.args.context.now c.infer_arm.new.context
    (deriv_of c.in_ok-d.d) typed in
    let all = row_takes (check_in c.args.scene) (binding_of c.args.binding) c.args.arms.now c.loop-i.i c.args.context.now
    (with_marks (reverse c.args.after.now) c.args.context.now)
    (deriv_of c.args.value) c.args.t.now c.loop-i.parts.items c.loop-i.invariant.0 in
    let p = err_from_is_err_and c.from_residual-in_err-joined.result c.from_residual-in_err-joined.ensures.1 in
    rw (p.1, p.2) (λ m. joined_refused
    (λ u. further_different (check_in c.args.scene)
    (binding_of c.args.binding) c.args.arms.now c.loop-i.i c.index-arms-i.result c.args.context.now c.infer_arm.new.context
    (with_marks (reverse c.args.after.now) c.args.context.now) c.args.t.now (deriv_of c.args.value)
    (deriv_of c.in_ok-d.d) c.loop-i.parts.items c.in_err-joined.field-0.0 c.loop-i.invariant.0 c.loop-i-test.true
    c.index-arms-i.is typed
    (subst (λ n. UseDifferent n (with_marks (reverse c.args.after.now) c.args.context.now) c.infer_arm.new.context
    c.in_err-joined.field-0.0) c.place_of-at.ensures
    (subst (λ s. UseDifferent c.place_of-at.result s c.infer_arm.new.context c.in_err-joined.field-0.0)
    (with_marks_same all.used takes.used c.args.context.now
    (with_marks (reverse c.args.after.now) c.args.context.now) c.infer_arm.new.context all.rest takes.rest) u)))
    (λ e u. further_unequal (check_in c.args.scene)
    (binding_of c.args.binding) c.args.arms.now c.loop-i.i c.index-arms-i.result c.args.context.now c.infer_arm.new.context
    (with_marks (reverse c.args.after.now) c.args.context.now) c.args.t.now (deriv_of c.args.value)
    (deriv_of c.in_ok-d.d) c.loop-i.parts.items c.in_err-joined.field-0.0 c.loop-i.invariant.0 c.loop-i-test.true
    c.index-arms-i.is typed (marks_decide takes.used all.used c.args.context.now c.infer_arm.new.context
    (with_marks (reverse c.args.after.now) c.args.context.now) takes.rest all.rest e)
    (subst (λ n. IsUnequal (check_in c.args.scene) n (type_of (deriv_of c.in_ok-d.d)) c.args.t.now c.in_err-joined.field-0.0)
    c.place_of-at.ensures u))
    (c.in_err-joined.ensures.refused m))

pub infer_arms::infer_further-joined-requires-clause-long : goal.infer_arms::infer_further-joined-requires-clause-long
infer_arms::infer_further-joined-requires-clause-long t c =
    let typed = subst (λ s. IsArmTyped (check_in c.args.scene)
    (binding_of c.args.binding) c.index-arms-i.result.label c.index-arms-i.result.binders.items s c.infer_arm.new.context
    c.index-arms-i.result.body (deriv_of c.in_ok-d.d)) c.loop-i.invariant.1 c.in_ok-d.ensures.typed in
    let takes = arm_takes (check_in c.args.scene)
    (binding_of c.args.binding) c.index-arms-i.result c.args.context.now c.infer_arm.new.context
    (deriv_of c.in_ok-d.d) typed in
    let all = row_takes (check_in c.args.scene) (binding_of c.args.binding) c.args.arms.now c.loop-i.i c.args.context.now
    (with_marks (reverse c.args.after.now) c.args.context.now)
    (deriv_of c.args.value) c.args.t.now c.loop-i.parts.items c.loop-i.invariant.0 in
    let long = length-reverse c.args.after.now in
    sym long ∙ marks_length all.used c.args.context.now (with_marks (reverse c.args.after.now) c.args.context.now) all.rest
    ∙ sym (marks_length takes.used c.args.context.now c.infer_arm.new.context takes.rest)

pub infer_arms::infer_further-joined-requires-clause-wanted : goal.infer_arms::infer_further-joined-requires-clause-wanted
infer_arms::infer_further-joined-requires-clause-wanted t c =
    c.loop-i.invariant.0.formed

pub infer_arms::infer_further-joined-requires-clause-found : goal.infer_arms::infer_further-joined-requires-clause-found
infer_arms::infer_further-joined-requires-clause-found t c =
    c.in_ok-d.ensures.typed.typed.typed.fact.formed

pub infer_arms::infer_further-joined-requires-clause-budget : goal.infer_arms::infer_further-joined-requires-clause-budget
infer_arms::infer_further-joined-requires-clause-budget t c =
    c.requires.set_up.budget

pub infer_arms::infer_further-exchange-requires : goal.infer_arms::infer_further-exchange-requires
infer_arms::infer_further-exchange-requires t c =
    let typed = subst (λ s. IsArmTyped (check_in c.args.scene)
    (binding_of c.args.binding) c.index-arms-i.result.label c.index-arms-i.result.binders.items s c.infer_arm.new.context
    c.index-arms-i.result.body (deriv_of c.in_ok-d.d)) c.loop-i.invariant.1 c.in_ok-d.ensures.typed in
    let takes = arm_takes (check_in c.args.scene)
    (binding_of c.args.binding) c.index-arms-i.result c.args.context.now c.infer_arm.new.context
    (deriv_of c.in_ok-d.d) typed in
    let all = row_takes (check_in c.args.scene) (binding_of c.args.binding) c.args.arms.now c.loop-i.i c.args.context.now
    (with_marks (reverse c.args.after.now) c.args.context.now)
    (deriv_of c.args.value) c.args.t.now c.loop-i.parts.items c.loop-i.invariant.0 in
    let long = length-reverse c.in_ok-before.before.items in
    let items = ap (λ (bs : List Bool). length bs) (c.in_ok-again.ensures.items ∙ c.deref.ensures.value) in
    let marks = ap (λ (bs : List Bool). length bs) c.loop-i.invariant.2 in
    items ∙ sym long ∙ marks ∙ sym (marks_length takes.used c.args.context.now c.infer_arm.new.context takes.rest)

pub infer_arms::infer_arms-infer_arm-requires : goal.infer_arms::infer_arms-infer_arm-requires
infer_arms::infer_arms-infer_arm-requires t c =
    let high = core_arms_height_at c.args.arms.now 0 c.index-arms-0.result c.requires.some in
    let is = ap (λ (b : Arm). core_height b.body) c.index-arms-0.is in (
      omega (arith, high, is, c.decreases),
      (
        c.requires.set_up,
        (
          c.requires.numbered 0 c.index-arms-0.result c.requires.some c.index-arms-0.is,
          arm_ready (check_in c.args.scene) (binding_of c.args.binding) c.args.arms.now 0 c.index-arms-0.result c.args.context.now
              c.requires.ready c.requires.some c.index-arms-0.is,
        ),
      ),
    )

pub infer_arms::infer_arms-infer_further-requires : goal.infer_arms::infer_arms-infer_further-requires
infer_arms::infer_arms-infer_further-requires t c =
    let takes = arm_takes (check_in c.args.scene)
    (binding_of c.args.binding) c.index-arms-0.result c.args.context.now c.infer_arm.new.context
    (deriv_of c.in_ok-first.first) c.in_ok-first.ensures.typed in
    let back = c.exchange-after.ensures.after ∙ ap (λ b. with_marks b c.infer_arm.new.context) c.in_ok-before.ensures
    ∙ marks_back takes.used c.args.context.now c.infer_arm.new.context takes.rest in
    let given = ap (λ (bs : List Bool). reverse bs) c.deref.ensures.value ∙ c.exchange-after.ensures.given in
    let after = (λ i. with_marks (given i) (back i))
    ∙ marks_on takes.used c.args.context.now c.infer_arm.new.context takes.rest in
    let first = first_is (check_in c.args.scene) (binding_of c.args.binding) c.args.arms.now c.index-arms-0.result
    c.args.context.now c.infer_arm.new.context (deriv_of c.in_ok-first.first) c.requires.some c.index-arms-0.is
    c.in_ok-first.ensures.typed in (
      omega (arith, c.decreases),
      (
        c.requires.set_up,
        (
          c.requires.numbered,
          (
            subst (λ (s : Scope). AreArmsReady (check_in c.args.scene) (binding_of c.args.binding)
                (core_arms_of c.args.arms.now) s.variables) (sym back) c.requires.ready,
            (
              subst (λ z. IsFirstTyped (check_in c.args.scene) (binding_of c.args.binding)
                  (core_arms_of c.args.arms.now) c.exchange-after.new.self z (deriv_of c.in_ok-first.first)) (sym after)
                  (subst (λ s. IsFirstTyped (check_in c.args.scene) (binding_of c.args.binding)
                  (core_arms_of c.args.arms.now) s c.infer_arm.new.context (deriv_of c.in_ok-first.first)) (sym back) first),
              c.in_ok-t.ensures ∙ c.type_of.ensures,
            ),
          ),
        ),
      ),
    )

pub infer_arms::infer_arms-exchange-after-requires : goal.infer_arms::infer_arms-exchange-after-requires
infer_arms::infer_arms-exchange-after-requires t c =
    let takes = arm_takes (check_in c.args.scene)
    (binding_of c.args.binding) c.index-arms-0.result c.args.context.now c.infer_arm.new.context
    (deriv_of c.in_ok-first.first) c.in_ok-first.ensures.typed in
    let long = length-reverse c.in_ok-before.before.items in
    let marks = ap (λ (bs : List Bool). length bs) c.in_ok-before.ensures in
    sym long ∙ marks ∙ sym (marks_length takes.used c.args.context.now c.infer_arm.new.context takes.rest)

pub infer_arms::infer_arms-exchange-requires : goal.infer_arms::infer_arms-exchange-requires
infer_arms::infer_arms-exchange-requires t c =
    let takes = arm_takes (check_in c.args.scene)
    (binding_of c.args.binding) c.index-arms-0.result c.args.context.now c.infer_arm.new.context
    (deriv_of c.in_ok-first.first) c.in_ok-first.ensures.typed in
    let back = c.exchange-after.ensures.after ∙ ap (λ b. with_marks b c.infer_arm.new.context) c.in_ok-before.ensures
    ∙ marks_back takes.used c.args.context.now c.infer_arm.new.context takes.rest in
    let long = length-reverse c.exchange-after.result.items in
    let given = ap (λ (bs : List Bool). length bs) c.exchange-after.ensures.given in
    sym long ∙ given ∙ marks_length takes.used c.args.context.now c.infer_arm.new.context takes.rest
    ∙ sym (ap (λ (s : Scope). length s.there) (c.in_ok-parts.ensures.here ∙ back))

pub infer_arms::infer_arms-returns-clause-typed : goal.infer_arms::infer_arms-returns-clause-typed
infer_arms::infer_arms-returns-clause-typed t c =
    let takes = arm_takes (check_in c.args.scene)
    (binding_of c.args.binding) c.index-arms-0.result c.args.context.now c.infer_arm.new.context
    (deriv_of c.in_ok-first.first) c.in_ok-first.ensures.typed in
    let back = c.exchange-after.ensures.after ∙ ap (λ b. with_marks b c.infer_arm.new.context) c.in_ok-before.ensures
    ∙ marks_back takes.used c.args.context.now c.infer_arm.new.context takes.rest in
    let ended = c.exchange.ensures.after ∙ (λ i. with_marks (reverse (sym c.deref.ensures.value i))
    (c.in_ok-parts.ensures.here i)) in
    let typed = subst (λ s. AreArmsTyped (check_in c.args.scene) (binding_of c.args.binding) (core_arms_of c.args.arms.now) s
    (with_marks (reverse c.deref.result.now) c.exchange-after.new.self) (deriv_of c.args.value)
    (row c.in_ok-t.t (parts_of c.in_ok-parts.parts.items))) back c.in_ok-parts.ensures.typed in
    let found = subst (λ w. AreArmsTyped (check_in c.args.scene) (binding_of c.args.binding)
    (core_arms_of c.args.arms.now) c.args.context.now (with_marks (reverse c.deref.result.now) c.exchange-after.new.self)
    (deriv_of c.args.value) w) (sym c.row.ensures) typed in
    subst (λ z. AreArmsTyped (check_in c.args.scene) (binding_of c.args.binding)
    (core_arms_of c.args.arms.now) c.args.context.now z (deriv_of c.args.value) (deriv_of c.row.result)) (sym ended) found

pub infer_arms::infer_arms-returns-in_err-first-clause-refused : goal.infer_arms::infer_arms-returns-in_err-first-clause-refused
infer_arms::infer_arms-returns-in_err-first-clause-refused t c =
    let p = err_from_is_err_and c.from_residual-in_err-first.result c.from_residual-in_err-first.ensures.1 in
    rw (p.1, p.2) (λ m. first_refused (check_in c.args.scene)
    (binding_of c.args.binding) c.args.arms.now c.index-arms-0.result c.args.context.now c.in_err-first.field-0.0
    c.requires.some c.index-arms-0.is (c.in_err-first.ensures.refused m))

pub infer_arms::infer_arms-returns-in_err-parts-clause-refused : goal.infer_arms::infer_arms-returns-in_err-parts-clause-refused
infer_arms::infer_arms-returns-in_err-parts-clause-refused t c =
    let takes = arm_takes (check_in c.args.scene)
    (binding_of c.args.binding) c.index-arms-0.result c.args.context.now c.infer_arm.new.context
    (deriv_of c.in_ok-first.first) c.in_ok-first.ensures.typed in
    let back = c.exchange-after.ensures.after ∙ ap (λ b. with_marks b c.infer_arm.new.context) c.in_ok-before.ensures
    ∙ marks_back takes.used c.args.context.now c.infer_arm.new.context takes.rest in
    let p = err_from_is_err_and c.from_residual-in_err-parts.result c.from_residual-in_err-parts.ensures.1 in
    rw (p.1, p.2) (λ m. subst (λ s. ShowsArms (check_in c.args.scene) (binding_of c.args.binding)
    (core_arms_of c.args.arms.now) s c.in_err-parts.field-0.0) back (c.in_err-parts.ensures.refused m))

pub infer_arms::infer_case-infer-requires : goal.infer_arms::infer_case-infer-requires
infer_arms::infer_case-infer-requires t c =
    (omega (arith, c.decreases), (c.requires.set_up, case_first_ready (check_in c.args.scene) c.requires.ready))

pub infer_arms::infer_case-infer_arms-requires : goal.infer_arms::infer_case-infer_arms-requires
infer_arms::infer_case-infer_arms-requires t c =
    let ready = case_ready (check_in c.args.scene) c.args.at c.args.value.now (core_arms_of c.args.arms.now)
    (deriv_of c.in_ok-d.d) c.args.context.now c.infer.new.context c.in_ok-found.ensures.found.number
    c.in_ok-found.ensures.found.family c.requires.set_up c.args.scene.module.now.whole.makers_differ
    c.in_ok-found.ensures.found.there c.in_ok-found.ensures.found.each_once c.requires.ready c.in_ok-d.ensures.typed in (
      omega (arith, c.decreases),
      (
        c.requires.set_up,
        (
          some_arms c.args.arms.now c.requires.ready.range.0,
          (
            (λ k b l e. case_numbered c.args.scene.module.now.families.items c.type_of.result.now c.args.arms.now
                c.in_ok-found.found c.deref.result.now k b c.in_ok-found.ensures.found c.deref.ensures.value l e),
            subst (λ ms. AreArmsReady (check_in c.args.scene) (fields ms)
                (core_arms_of c.args.arms.now) c.infer.new.context.variables) (sym c.in_ok-found.ensures.found.makers) ready,
          ),
        ),
      ),
    )

pub infer_arms::infer_case-returns-in_err-d-clause-refused : goal.infer_arms::infer_case-returns-in_err-d-clause-refused
infer_arms::infer_case-returns-in_err-d-clause-refused t c =
    let p = err_from_is_err_and c.from_residual.result c.from_residual.ensures.1 in
    rw (p.1, p.2) (λ m. inl (c.in_err-d.ensures.refused m))

pub infer_arms::infer_case-returns-in_err-found-clause-refused : goal.infer_arms::infer_case-returns-in_err-found-clause-refused
infer_arms::infer_case-returns-in_err-found-clause-refused t c =
    let p = err_from_is_err_and c.from_residual-in_err-found.result c.from_residual-in_err-found.ensures.1 in
    rw (p.1, p.2) (λ m. inr (behind c.in_ok-d.ensures.typed
    (inl (subst (λ o. ShowsNoCase c.args.scene.module.now.families.items c.args.at o
    (arm_labels (core_arms_of c.args.arms.now)) c.in_err-found.field-0.0) c.type_of.ensures
    (c.in_err-found.ensures.refused m)))))

pub infer_arms::infer_case-returns-clause-typed : goal.infer_arms::infer_case-returns-clause-typed
infer_arms::infer_case-returns-clause-typed t c =
    let is = sym c.type_of.ensures ∙ c.in_ok-found.ensures.found.type in
    IfOk-weaker _ _ _ (λ w y. case_typed (check_in c.args.scene) c.args.at c.args.value.now (core_arms_of c.args.arms.now)
    (deriv_of c.in_ok-d.d) (deriv_of w) c.args.context.now c.infer.new.context c.infer_arms.new.context
    c.in_ok-found.ensures.found.number c.in_ok-found.ensures.found.family c.in_ok-d.ensures.typed is
    c.in_ok-found.ensures.found.there c.in_ok-found.ensures.found.each_once
    (subst (λ ms. AreArmsTyped (check_in c.args.scene) (fields ms)
    (core_arms_of c.args.arms.now) c.infer.new.context c.infer_arms.new.context (deriv_of c.in_ok-d.d) (deriv_of w))
    c.in_ok-found.ensures.found.makers y)) c.infer_arms.ensures.typed

pub infer_arms::infer_case-returns-clause-refused : goal.infer_arms::infer_case-returns-clause-refused
infer_arms::infer_case-returns-clause-refused t c =
    let is = sym c.type_of.ensures ∙ c.in_ok-found.ensures.found.type in
    IfErr-weaker c.infer_arms.result (λ f. IsShown f
    (ShowsArms (check_in c.args.scene) (fields c.in_ok-found.found.makers.now)
    (core_arms_of c.args.arms.now) c.infer.new.context f))
    (λ f. IsRefused (check_in c.args.scene) (case_of c.args.at c.args.value.now (core_arms_of c.args.arms.now))
    c.args.context.now f) (λ f y m. inr (behind c.in_ok-d.ensures.typed
    (inr (
      c.in_ok-found.ensures.found.number,
      c.in_ok-found.ensures.found.family,
      is,
      c.in_ok-found.ensures.found.there,
      c.in_ok-found.ensures.found.each_once,
      subst
          (λ ms. ShowsArms (check_in c.args.scene) (fields ms) (core_arms_of c.args.arms.now) c.infer.new.context f)
          c.in_ok-found.ensures.found.makers (y m),
    )))) c.infer_arms.ensures.refused

pub infer_arms::infer_match-infer-requires : goal.infer_arms::infer_match-infer-requires
infer_arms::infer_match-infer-requires t c =
    (omega (arith, c.decreases), (c.requires.set_up, match_first_ready (check_in c.args.scene) c.requires.ready))

pub infer_arms::infer_match-infer_arms-requires : goal.infer_arms::infer_match-infer_arms-requires
infer_arms::infer_match-infer_arms-requires t c =
    let kept = c.in_ok-t.ensures ∙ c.type_of-2.ensures in
    let offering = subst (λ o. IsOffering o c.in_ok-match_labels.ensures.offered.0) c.type_of.ensures
    c.in_ok-match_labels.ensures.offered.1 in
    let ready = match_ready (check_in c.args.scene) c.args.at c.args.channel.now (core_arms_of c.args.arms.now)
    (deriv_of c.in_ok-d.d) c.args.context.now c.infer.new.context
    (type_of (deriv_of c.in_ok-d.d)) c.in_ok-match_labels.ensures.offered.0 c.in_ok-d.ensures.typed.fact.formed offering
    c.in_ok-match_labels.ensures.offered.2 c.requires.ready c.in_ok-d.ensures.typed in (
      omega (arith, c.decreases),
      (
        c.requires.set_up,
        (
          some_arms c.args.arms.now c.requires.ready.range.0,
          (
            (λ k b l e. tt),
            subst (λ o. AreArmsReady (check_in c.args.scene) (rest o)
                (core_arms_of c.args.arms.now) c.infer.new.context.variables) (sym kept) ready,
          ),
        ),
      ),
    )

pub infer_arms::infer_match-returns-in_err-d-clause-refused : goal.infer_arms::infer_match-returns-in_err-d-clause-refused
infer_arms::infer_match-returns-in_err-d-clause-refused t c =
    let p = err_from_is_err_and c.from_residual.result c.from_residual.ensures.1 in
    rw (p.1, p.2) (λ m. inl (c.in_err-d.ensures.refused m))

pub infer_arms::infer_match-returns-in_err-match_labels-clause-refused :
    goal.infer_arms::infer_match-returns-in_err-match_labels-clause-refused
infer_arms::infer_match-returns-in_err-match_labels-clause-refused t c =
    let p = err_from_is_err_and c.from_residual-in_err-match_labels.result c.from_residual-in_err-match_labels.ensures.1 in
    rw (p.1, p.2) (λ m. inr (behind c.in_ok-d.ensures.typed
    (inl (subst (λ o. ShowsNoMatch c.args.at o (arm_labels (core_arms_of c.args.arms.now)) c.in_err-match_labels.field-0.0)
    c.type_of.ensures (c.in_err-match_labels.ensures.refused m)))))

pub infer_arms::infer_match-returns-clause-typed : goal.infer_arms::infer_match-returns-clause-typed
infer_arms::infer_match-returns-clause-typed t c =
    let kept = c.in_ok-t.ensures ∙ c.type_of-2.ensures in
    let offering = subst (λ o. IsOffering o c.in_ok-match_labels.ensures.offered.0) c.type_of.ensures
    c.in_ok-match_labels.ensures.offered.1 in
    IfOk-weaker _ _ _ (λ w y. match_typed (check_in c.args.scene) c.args.at c.args.channel.now (core_arms_of c.args.arms.now)
    (deriv_of c.in_ok-d.d) (deriv_of w) c.args.context.now c.infer.new.context c.infer_arms.new.context
    c.in_ok-match_labels.ensures.offered.0 c.in_ok-d.ensures.typed offering c.in_ok-match_labels.ensures.offered.2
    (subst (λ o. AreArmsTyped (check_in c.args.scene) (rest o)
    (core_arms_of c.args.arms.now) c.infer.new.context c.infer_arms.new.context (deriv_of c.in_ok-d.d) (deriv_of w)) kept y))
    c.infer_arms.ensures.typed

pub infer_arms::infer_match-returns-clause-refused : goal.infer_arms::infer_match-returns-clause-refused
infer_arms::infer_match-returns-clause-refused t c =
    let kept = c.in_ok-t.ensures ∙ c.type_of-2.ensures in
    let offering = subst (λ o. IsOffering o c.in_ok-match_labels.ensures.offered.0) c.type_of.ensures
    c.in_ok-match_labels.ensures.offered.1 in
    IfErr-weaker c.infer_arms.result (λ f. IsShown f
    (ShowsArms (check_in c.args.scene) (rest c.in_ok-t.t) (core_arms_of c.args.arms.now) c.infer.new.context f))
    (λ f. IsRefused (check_in c.args.scene) (match_with c.args.at c.args.channel.now (core_arms_of c.args.arms.now))
    c.args.context.now f) (λ f y m. inr (behind c.in_ok-d.ensures.typed
    (inr (
      c.in_ok-match_labels.ensures.offered.0,
      offering,
      c.in_ok-match_labels.ensures.offered.2,
      subst
          (λ o. ShowsArms (check_in c.args.scene) (rest o) (core_arms_of c.args.arms.now) c.infer.new.context f) kept (y m),
    ))))
    c.infer_arms.ensures.refused

pub infer_parts::infer_pair-infer-requires : goal.infer_parts::infer_pair-infer-requires
infer_parts::infer_pair-infer-requires t c = (
  omega (arith, c.decreases),
  (
    c.requires.set_up,
    (pair_ready (check_in c.args.scene) c.args.at c.args.first.now c.args.second.now c.args.context.now.variables
        c.requires.ready).0,
  ),
)

pub infer_parts::infer_pair-infer-requires-2 : goal.infer_parts::infer_pair-infer-requires-2
infer_parts::infer_pair-infer-requires-2 t c = (
  omega (arith, c.decreases),
  (
    c.requires.set_up,
    later_ready (check_in c.args.scene) _ _ _ _ _ c.in_ok-d.ensures.typed
        (pair_ready (check_in c.args.scene) c.args.at c.args.first.now c.args.second.now c.args.context.now.variables
        c.requires.ready).1,
  ),
)

pub infer_parts::infer_pair-returns-in_err-d-clause-refused : goal.infer_parts::infer_pair-returns-in_err-d-clause-refused
infer_parts::infer_pair-returns-in_err-d-clause-refused t c =
    let p = err_from_is_err_and c.from_residual.result c.from_residual.ensures.1 in
    rw (p.1, p.2) (λ m. inl (c.in_err-d.ensures.refused m))

pub infer_parts::infer_pair-returns-in_err-h-clause-refused : goal.infer_parts::infer_pair-returns-in_err-h-clause-refused
infer_parts::infer_pair-returns-in_err-h-clause-refused t c =
    let p = err_from_is_err_and c.from_residual-in_err-h.result c.from_residual-in_err-h.ensures.1 in
    rw (p.1, p.2) (λ m. inr (behind c.in_ok-d.ensures.typed (inl (c.in_err-h.ensures.refused m))))

pub infer_parts::infer_pair-returns-clause-refused : goal.infer_parts::infer_pair-returns-clause-refused
infer_parts::infer_pair-returns-clause-refused t c =
    IfErr-weaker c.pair_row.result (λ f. IsShown f
    (IsTooLargeAt c.args.at (type.pair (type_of (deriv_of c.in_ok-d.d)) (type_of (deriv_of c.in_ok-h.h))) f))
    (λ f. IsRefused (check_in c.args.scene) (pair c.args.at c.args.first.now c.args.second.now) c.args.context.now f)
    (λ f y m. inr (behind c.in_ok-d.ensures.typed (inr (behind c.in_ok-h.ensures.typed (y m))))) c.pair_row.ensures.refused

pub infer_parts::infer_pair-returns-clause-typed : goal.infer_parts::infer_pair-returns-clause-typed
infer_parts::infer_pair-returns-clause-typed t c =
    both_ok c.pair_row.result (λ w. deriv_of w ≡ row (type.pair (type_of (deriv_of c.in_ok-d.d)) (type_of (deriv_of c.in_ok-h.h)))
    (two (deriv_of c.in_ok-d.d) (deriv_of c.in_ok-h.h))) (λ w. IsInSize (type_of (deriv_of w))) _
    (λ w e n. pair_typed (check_in c.args.scene) _ _ _ _ _ _ _ _ _ _ c.in_ok-d.ensures.typed c.in_ok-h.ensures.typed refl e n)
    c.pair_row.ensures.made c.pair_row.ensures.small

pub infer_parts::infer_fields-infer-requires : goal.infer_parts::infer_fields-infer-requires
infer_parts::infer_fields-infer-requires t c =
    let long = c.requires.ready.long ∙ terms_of_length c.args.arguments.now in
    let few : c.loop-i.i < length c.args.fields.now = omega (arith, long, c.loop-i-test.true) in
    let ready = next_ready (check_in c.args.scene) c.args.arguments.now c.args.fields.now c.loop-i.i c.index-arguments-i.result
    c.args.context.now c.loop-i.context c.loop-i.parts.items c.loop-i.invariant c.loop-i-test.true few in
    let high = cores_height_at c.args.arguments.now c.loop-i.i c.index-arguments-i.result c.loop-i-test.true in
    let is = ap core_height c.index-arguments-i.is in (
      omega (arith, high, is, c.decreases),
      (
        c.requires.set_up,
        subst
            (λ e. IsReady (check_in c.args.scene) e c.loop-i.context.variables) (sym c.index-arguments-i.is) ready.0,
      ),
    )

pub infer_parts::infer_fields-bounds-fields-i : goal.infer_parts::infer_fields-bounds-fields-i
infer_parts::infer_fields-bounds-fields-i t c =
    let long = c.requires.ready.long ∙ terms_of_length c.args.arguments.now in
    let few : c.loop-i.i < length c.args.fields.now = omega (arith, long, c.loop-i-test.true) in
    few

pub infer_parts::infer_fields-type_at-wanted-requires : goal.infer_parts::infer_fields-type_at-wanted-requires
infer_parts::infer_fields-type_at-wanted-requires t c =
    let long = c.requires.ready.long ∙ terms_of_length c.args.arguments.now in
    let few : c.loop-i.i < length c.args.fields.now = omega (arith, long, c.loop-i-test.true) in
    let formed = (next_ready (check_in c.args.scene) c.args.arguments.now c.args.fields.now c.loop-i.i c.index-arguments-i.result
    c.args.context.now c.loop-i.context c.loop-i.parts.items c.loop-i.invariant c.loop-i-test.true few).1 in
    slice_get_within c.args.scene.module.now.types.items (get_or c.args.fields.now c.loop-i.i 0) formed.0 formed.1

pub infer_parts::infer_fields-compared-requires-clause-budget : goal.infer_parts::infer_fields-compared-requires-clause-budget
infer_parts::infer_fields-compared-requires-clause-budget t c =
    c.requires.set_up.budget

pub infer_parts::infer_fields-compared-requires-clause-found : goal.infer_parts::infer_fields-compared-requires-clause-found
infer_parts::infer_fields-compared-requires-clause-found t c =
    c.in_ok-d.ensures.typed.fact.formed

pub infer_parts::infer_fields-compared-requires-clause-wanted : goal.infer_parts::infer_fields-compared-requires-clause-wanted
infer_parts::infer_fields-compared-requires-clause-wanted t c =
    let long = c.requires.ready.long ∙ terms_of_length c.args.arguments.now in
    let few : c.loop-i.i < length c.args.fields.now = omega (arith, long, c.loop-i-test.true) in
    let formed = (next_ready (check_in c.args.scene) c.args.arguments.now c.args.fields.now c.loop-i.i c.index-arguments-i.result
    c.args.context.now c.loop-i.context c.loop-i.parts.items c.loop-i.invariant c.loop-i-test.true few).1 in
    subst (IsFormed c.args.scene.vars.now) (same_Some formed.0 c.type_at-wanted.result.now
    (sym formed.1 ∙ c.type_at-wanted.ensures)) (closed_formed c.args.scene.vars.now formed.0 formed.2)

pub infer_parts::infer_fields-loop-i-init : goal.infer_parts::infer_fields-loop-i-init
infer_parts::infer_fields-loop-i-init t c =
    subst (λ ps. FieldsSoFar (check_in c.args.scene) c.args.arguments.now c.args.fields.now 0 c.args.context.now
    c.args.context.now ps) (sym c.new-parts.ensures.items)
    (fields_start (check_in c.args.scene) c.args.arguments.now c.args.fields.now c.args.context.now c.requires.ready)

pub infer_parts::infer_fields-loop-i-preserved : goal.infer_parts::infer_fields-loop-i-preserved
infer_parts::infer_fields-loop-i-preserved t c =
    let long = c.requires.ready.long ∙ terms_of_length c.args.arguments.now in
    let few : c.loop-i.i < length c.args.fields.now = omega (arith, long, c.loop-i-test.true) in
    fields_step (check_in c.args.scene) c.args.arguments.now c.args.fields.now c.loop-i.i c.index-arguments-i.result
    c.args.context.now c.loop-i.context c.infer.new.context c.loop-i.parts.items c.push.new.self.items
    (deriv_of c.in_ok-d.d) c.in_ok-compared.field-0 c.type_at-wanted.result.now c.loop-i.invariant c.loop-i-test.true few
    (sym c.index-arguments-i.is) c.in_ok-d.ensures.typed c.type_at-wanted.ensures c.in_ok-compared.ensures.turned
    c.in_ok-compared.ensures.known c.in_ok-push.ensures.items

pub infer_parts::infer_fields-returns-clause-typed : goal.infer_parts::infer_fields-returns-clause-typed
infer_parts::infer_fields-returns-clause-typed t c =
    λ ts at. let long = c.requires.ready.long ∙ terms_of_length c.args.arguments.now in
    let done : c.loop-i.i ≡ length c.args.arguments.now = omega (arith, c.loop-i-test.false, c.loop-i.auto.i-end) in
    fields_end (check_in c.args.scene) c.args.arguments.now c.args.fields.now c.args.context.now c.loop-i.context
    c.loop-i.parts.items (subst (λ n. FieldsSoFar
    (check_in c.args.scene) c.args.arguments.now c.args.fields.now n c.args.context.now c.loop-i.context c.loop-i.parts.items)
    done c.loop-i.invariant) ts at long

pub infer_parts::infer_fields-returns-in_err-d-clause-refused : goal.infer_parts::infer_fields-returns-in_err-d-clause-refused
infer_parts::infer_fields-returns-in_err-d-clause-refused t c =
    let long = c.requires.ready.long ∙ terms_of_length c.args.arguments.now in
    let few : c.loop-i.i < length c.args.fields.now = omega (arith, long, c.loop-i-test.true) in
    let p = err_from_is_err_and c.from_residual.result c.from_residual.ensures.1 in
    rw (p.1, p.2) (λ ts at m. fields_refused (check_in c.args.scene) c.args.arguments.now c.args.fields.now c.loop-i.i
    c.index-arguments-i.result c.args.context.now c.loop-i.context c.loop-i.parts.items ts c.in_err-d.field-0.0
    c.loop-i.invariant c.loop-i-test.true few (sym c.index-arguments-i.is) at (λ u us. inl (c.in_err-d.ensures.refused m)))

pub infer_parts::infer_fields-returns-in_err-compared-clause-refused :
    goal.infer_parts::infer_fields-returns-in_err-compared-clause-refused
infer_parts::infer_fields-returns-in_err-compared-clause-refused t c =
    let long = c.requires.ready.long ∙ terms_of_length c.args.arguments.now in
    let few : c.loop-i.i < length c.args.fields.now = omega (arith, long, c.loop-i-test.true) in
    let p = err_from_is_err_and c.from_residual-in_err-compared.result c.from_residual-in_err-compared.ensures.1 in
    rw (p.1, p.2) (λ ts at m. fields_unequal (check_in c.args.scene) c.args.arguments.now c.args.fields.now c.loop-i.i
    c.index-arguments-i.result c.args.context.now c.loop-i.context c.infer.new.context c.loop-i.parts.items ts
    (deriv_of c.in_ok-d.d) c.type_at-wanted.result.now c.place_of.result c.in_err-compared.field-0.0 c.loop-i.invariant
    c.loop-i-test.true few (sym c.index-arguments-i.is) at c.in_ok-d.ensures.typed c.type_at-wanted.ensures c.place_of.ensures
    (c.in_err-compared.ensures.refused m))

pub infer_parts::infer_make-fields_of-fields-requires : goal.infer_parts::infer_make-fields_of-fields-requires
infer_parts::infer_make-fields_of-fields-requires t c =
    (terms_length (cores_of c.args.arguments.now), c.requires.ready.range.0)

pub infer_parts::infer_make-infer_fields-requires : goal.infer_parts::infer_make-infer_fields-requires
infer_parts::infer_make-infer_fields-requires t c = (
  omega (arith, c.decreases),
  (
    c.requires.set_up,
    subst
        (λ ks. AreFieldsReady (check_in c.args.scene) (cores_of c.args.arguments.now) ks c.args.context.now.variables)
        (sym c.fields_of-fields.ensures.2) (make_ready (check_in c.args.scene) c.args.at c.args.family c.args.maker
        (cores_of c.args.arguments.now) c.fields_of-fields.ensures.0 c.args.context.now.variables c.requires.set_up
        c.requires.ready c.fields_of-fields.ensures.1),
  ),
)

pub infer_parts::infer_make-returns-in_err-parts-clause-refused : goal.infer_parts::infer_make-returns-in_err-parts-clause-refused
infer_parts::infer_make-returns-in_err-parts-clause-refused t c =
    let types = field_types c.args.scene.module.now.types.items c.fields_of-fields.ensures.0.fields.items
    (formed_fields (check_in c.args.scene) c.args.family c.args.maker c.fields_of-fields.ensures.0 c.requires.set_up.fields
    c.fields_of-fields.ensures.1) in
    let there = subst (λ ks. AreAt c.args.scene.module.now.types.items ks types.0) (sym c.fields_of-fields.ensures.2) types.1 in
    let p = err_from_is_err_and c.from_residual.result c.from_residual.ensures.1 in
    rw (p.1, p.2) (λ m. (
      c.fields_of-fields.ensures.0,
      types.0,
      c.fields_of-fields.ensures.1,
      types.1,
      c.in_err-parts.ensures.refused types.0 there m,
    ))

pub infer_parts::infer_make-returns-clause-typed : goal.infer_parts::infer_make-returns-clause-typed
infer_parts::infer_make-returns-clause-typed t c =
    let types = field_types c.args.scene.module.now.types.items c.fields_of-fields.ensures.0.fields.items
    (formed_fields (check_in c.args.scene) c.args.family c.args.maker c.fields_of-fields.ensures.0 c.requires.set_up.fields
    c.fields_of-fields.ensures.1) in
    let there = subst (λ ks. AreAt c.args.scene.module.now.types.items ks types.0) (sym c.fields_of-fields.ensures.2) types.1 in
    make_typed (check_in c.args.scene) _ _ _ _ _ c.fields_of-fields.ensures.0 types.0 _ _ _ _ c.fields_of-fields.ensures.1 types.1
    (c.in_ok-parts.ensures.typed types.0 there) c.named.ensures c.row.ensures

pub infer_parts::infer_if-infer-requires : goal.infer_parts::infer_if-infer-requires
infer_parts::infer_if-infer-requires t c =
    let parts = if_ready (check_in c.args.scene) c.args.at c.args.condition.now c.args.yes.now c.args.no.now
    c.args.context.now.variables c.requires.ready in
    (omega (arith, c.decreases), (c.requires.set_up, parts.0))

pub infer_parts::infer_if-infer-requires-2 : goal.infer_parts::infer_if-infer-requires-2
infer_parts::infer_if-infer-requires-2 t c =
    let parts = if_ready (check_in c.args.scene) c.args.at c.args.condition.now c.args.yes.now c.args.no.now
    c.args.context.now.variables c.requires.ready in (
      omega (arith, c.decreases),
      (
        c.requires.set_up,
        later_ready (check_in c.args.scene) c.args.condition.now c.args.yes.now
            (deriv_of c.in_ok-found.found) c.args.context.now c.infer.new.context c.in_ok-found.ensures.typed parts.1,
      ),
    )

pub infer_parts::infer_if-infer-requires-3 : goal.infer_parts::infer_if-infer-requires-3
infer_parts::infer_if-infer-requires-3 t c =
    let parts = if_ready (check_in c.args.scene) c.args.at c.args.condition.now c.args.yes.now c.args.no.now
    c.args.context.now.variables c.requires.ready in
    let back = c.exchange-after.ensures.after ∙ ap (λ b. with_marks b c.infer-2.new.context) c.in_ok-before.ensures
    ∙ marks_back c.in_ok-d.ensures.typed.used c.infer.new.context c.infer-2.new.context c.in_ok-d.ensures.typed.rest in (
      omega (arith, c.decreases),
      (
        c.requires.set_up,
        subst
            (λ s. IsReady (check_in c.args.scene) c.args.no.now s.variables) (sym back)
            (later_ready (check_in c.args.scene) c.args.condition.now c.args.no.now
            (deriv_of c.in_ok-found.found) c.args.context.now c.infer.new.context c.in_ok-found.ensures.typed parts.2),
      ),
    )

pub infer_parts::infer_if-truth-requires-clause-budget : goal.infer_parts::infer_if-truth-requires-clause-budget
infer_parts::infer_if-truth-requires-clause-budget t c =
    c.requires.set_up.budget

pub infer_parts::infer_if-truth-requires-clause-found : goal.infer_parts::infer_if-truth-requires-clause-found
infer_parts::infer_if-truth-requires-clause-found t c =
    c.in_ok-found.ensures.typed.fact.formed

pub infer_parts::infer_if-exchange-after-requires : goal.infer_parts::infer_if-exchange-after-requires
infer_parts::infer_if-exchange-after-requires t c =
    let same = marks_length c.in_ok-d.ensures.typed.used c.infer.new.context c.infer-2.new.context c.in_ok-d.ensures.typed.rest in
    let long = length-reverse c.in_ok-before.before.items in
    let marks = ap (λ (bs : List Bool). length bs) c.in_ok-before.ensures in
    sym long ∙ marks ∙ sym same

pub infer_parts::infer_if-joined-requires-clause-long : goal.infer_parts::infer_if-joined-requires-clause-long
infer_parts::infer_if-joined-requires-clause-long t c =
    let back = c.exchange-after.ensures.after ∙ ap (λ b. with_marks b c.infer-2.new.context) c.in_ok-before.ensures
    ∙ marks_back c.in_ok-d.ensures.typed.used c.infer.new.context c.infer-2.new.context c.in_ok-d.ensures.typed.rest in
    let no = subst (λ s. IsTyped (check_in c.args.scene) s c.infer-3.new.context c.args.no.now (deriv_of c.in_ok-h.h)) back
    c.in_ok-h.ensures.typed in
    let one = marks_length c.in_ok-d.ensures.typed.used c.infer.new.context c.infer-2.new.context c.in_ok-d.ensures.typed.rest in
    let two = marks_length no.used c.infer.new.context c.infer-3.new.context no.rest in
    let long = length-reverse c.exchange-after.result.items in
    let given = ap (λ (bs : List Bool). length bs) c.exchange-after.ensures.given in
    let items = ap (λ (bs : List Bool). length bs) c.deref.ensures.value in
    items ∙ sym long ∙ given ∙ one ∙ sym two

pub infer_parts::infer_if-joined-requires-clause-wanted : goal.infer_parts::infer_if-joined-requires-clause-wanted
infer_parts::infer_if-joined-requires-clause-wanted t c =
    subst (IsFormed c.args.scene.vars.now) (sym c.type_of.ensures) c.in_ok-d.ensures.typed.fact.formed

pub infer_parts::infer_if-joined-requires-clause-found : goal.infer_parts::infer_if-joined-requires-clause-found
infer_parts::infer_if-joined-requires-clause-found t c =
    c.in_ok-h.ensures.typed.fact.formed

pub infer_parts::infer_if-joined-requires-clause-budget : goal.infer_parts::infer_if-joined-requires-clause-budget
infer_parts::infer_if-joined-requires-clause-budget t c =
    c.requires.set_up.budget

pub infer_parts::infer_if-returns-in_err-found-clause-refused : goal.infer_parts::infer_if-returns-in_err-found-clause-refused
infer_parts::infer_if-returns-in_err-found-clause-refused t c =
    let p = err_from_is_err_and c.from_residual.result c.from_residual.ensures.1 in
    rw (p.1, p.2) (λ m. inl (c.in_err-found.ensures.refused m))

pub infer_parts::infer_if-returns-in_err-tested-clause-refused : goal.infer_parts::infer_if-returns-in_err-tested-clause-refused
infer_parts::infer_if-returns-in_err-tested-clause-refused t c =
    let p = err_from_is_err_and c.from_residual-in_err-tested.result c.from_residual-in_err-tested.ensures.1 in
    rw (p.1, p.2) (λ m. inr (behind c.in_ok-found.ensures.typed
    (inl (subst (λ n. IsUnequal (check_in c.args.scene) n (type_of (deriv_of c.in_ok-found.found))
    (plain Truth) c.in_err-tested.field-0.0) c.place_of.ensures (c.in_err-tested.ensures.refused m)))))

pub infer_parts::infer_if-returns-in_err-d-clause-refused : goal.infer_parts::infer_if-returns-in_err-d-clause-refused
infer_parts::infer_if-returns-in_err-d-clause-refused t c =
    let p = err_from_is_err_and c.from_residual-in_err-d.result c.from_residual-in_err-d.ensures.1 in
    rw (p.1, p.2) (λ m. inr (behind c.in_ok-found.ensures.typed
    (inr (c.in_ok-tested.ensures.known, inl (c.in_err-d.ensures.refused m)))))

pub infer_parts::infer_if-returns-in_err-h-clause-refused : goal.infer_parts::infer_if-returns-in_err-h-clause-refused
infer_parts::infer_if-returns-in_err-h-clause-refused t c =
    let back = c.exchange-after.ensures.after ∙ ap (λ b. with_marks b c.infer-2.new.context) c.in_ok-before.ensures
    ∙ marks_back c.in_ok-d.ensures.typed.used c.infer.new.context c.infer-2.new.context c.in_ok-d.ensures.typed.rest in
    let p = err_from_is_err_and c.from_residual-in_err-h.result c.from_residual-in_err-h.ensures.1 in
    rw (p.1, p.2) (λ m. inr (behind c.in_ok-found.ensures.typed
    (inr (
      c.in_ok-tested.ensures.known,
      inr (behind c.in_ok-d.ensures.typed
          (inl (subst (λ s. Shows (check_in c.args.scene) c.args.no.now s c.in_err-h.field-0.0) back
          (c.in_err-h.ensures.refused m)))),
    ))))

pub infer_parts::infer_if-returns-in_err-other-clause-refused : goal.infer_parts::infer_if-returns-in_err-other-clause-refused
infer_parts::infer_if-returns-in_err-other-clause-refused t c =
    let back = c.exchange-after.ensures.after ∙ ap (λ b. with_marks b c.infer-2.new.context) c.in_ok-before.ensures
    ∙ marks_back c.in_ok-d.ensures.typed.used c.infer.new.context c.infer-2.new.context c.in_ok-d.ensures.typed.rest in
    let no = subst (λ s. IsTyped (check_in c.args.scene) s c.infer-3.new.context c.args.no.now (deriv_of c.in_ok-h.h)) back
    c.in_ok-h.ensures.typed in
    let marked = ap (λ b. with_marks b c.infer-3.new.context)
    (ap (λ (bs : List Bool). reverse bs) c.deref.ensures.value ∙ c.exchange-after.ensures.given)
    ∙ with_marks_same c.in_ok-d.ensures.typed.used no.used c.infer.new.context c.infer-2.new.context c.infer-3.new.context
    c.in_ok-d.ensures.typed.rest no.rest in
    let p = err_from_is_err_and c.from_residual-in_err-other.result c.from_residual-in_err-other.ensures.1 in
    rw (p.1, p.2) (λ m. inr (behind c.in_ok-found.ensures.typed (inr (
      c.in_ok-tested.ensures.known,
      inr (behind c.in_ok-d.ensures.typed (inr (behind no (joined_refused
          (λ u. inl (subst (λ n. UseDifferent n c.infer-2.new.context c.infer-3.new.context c.in_err-other.field-0.0)
          c.place_of-2.ensures (subst (λ s. UseDifferent c.place_of-2.result s c.infer-3.new.context c.in_err-other.field-0.0)
          marked u)))
          (λ e u. inr (
            marks_decide no.used c.in_ok-d.ensures.typed.used c.infer.new.context c.infer-3.new.context c.infer-2.new.context
                no.rest c.in_ok-d.ensures.typed.rest (e ∙ (ap (λ (bs : List Bool). reverse bs) c.deref.ensures.value
                ∙ c.exchange-after.ensures.given)),
            subst (λ n. IsUnequal (check_in c.args.scene) n (type_of (deriv_of c.in_ok-h.h))
                (type_of (deriv_of c.in_ok-d.d)) c.in_err-other.field-0.0) c.place_of-2.ensures
                (subst (λ o. IsUnequal (check_in c.args.scene) c.place_of-2.result
                (type_of (deriv_of c.in_ok-h.h)) o c.in_err-other.field-0.0) c.type_of.ensures u),
          ))
          (c.in_err-other.ensures.refused m))))),
    )))
    )

pub infer_parts::infer_if-returns-clause-typed : goal.infer_parts::infer_if-returns-clause-typed
infer_parts::infer_if-returns-clause-typed t c =
    let back = c.exchange-after.ensures.after ∙ ap (λ b. with_marks b c.infer-2.new.context) c.in_ok-before.ensures
    ∙ marks_back c.in_ok-d.ensures.typed.used c.infer.new.context c.infer-2.new.context c.in_ok-d.ensures.typed.rest in
    let no = subst (λ s. IsTyped (check_in c.args.scene) s c.infer-3.new.context c.args.no.now (deriv_of c.in_ok-h.h)) back
    c.in_ok-h.ensures.typed in
    let same = marks_decide no.used c.in_ok-d.ensures.typed.used c.infer.new.context c.infer-3.new.context c.infer-2.new.context
    no.rest c.in_ok-d.ensures.typed.rest (c.in_ok-other.ensures.same
    ∙ (ap (λ (bs : List Bool). reverse bs) c.deref.ensures.value ∙ c.exchange-after.ensures.given)) in
    if_typed (check_in c.args.scene) _ _ _ _ _ _ _ _ _ _ (plain Truth)
    (plain Truth) _ _ _ c.in_ok-found.ensures.typed refl c.in_ok-tested.ensures.turned c.in_ok-tested.ensures.known
    (subst (λ z. IsTyped (check_in c.args.scene) c.infer.new.context z c.args.yes.now (deriv_of c.in_ok-d.d))
    (sym same) c.in_ok-d.ensures.typed) no
    (c.in_ok-other.ensures.turned ∙ ap (λ o. convert (type_of (deriv_of c.in_ok-h.h)) o (deriv_of c.in_ok-h.h)) c.type_of.ensures)
    (subst (IsKnown (check_in c.args.scene) (type_of (deriv_of c.in_ok-h.h))) c.type_of.ensures c.in_ok-other.ensures.known)
    c.in_ok-branches.ensures

pub infer_parts::infer_not-infer-requires : goal.infer_parts::infer_not-infer-requires
infer_parts::infer_not-infer-requires t c =
    (omega (arith, c.decreases), (c.requires.set_up, one_ready (check_in c.args.scene) _ _ _ c.requires.ready))

pub infer_parts::infer_not-negated-requires-clause-budget : goal.infer_parts::infer_not-negated-requires-clause-budget
infer_parts::infer_not-negated-requires-clause-budget t c =
    c.requires.set_up.budget

pub infer_parts::infer_not-negated-requires-clause-found : goal.infer_parts::infer_not-negated-requires-clause-found
infer_parts::infer_not-negated-requires-clause-found t c =
    c.in_ok-d.ensures.typed.fact.formed

pub infer_parts::infer_not-returns-in_err-d-clause-refused : goal.infer_parts::infer_not-returns-in_err-d-clause-refused
infer_parts::infer_not-returns-in_err-d-clause-refused t c =
    let p = err_from_is_err_and c.from_residual.result c.from_residual.ensures.1 in
    rw (p.1, p.2) (λ m. inl (c.in_err-d.ensures.refused m))

pub infer_parts::infer_not-returns-clause-refused : goal.infer_parts::infer_not-returns-clause-refused
infer_parts::infer_not-returns-clause-refused t c =
    IfErr-weaker c.negated.result (λ f. IsShown f
    (IsUnequal (check_in c.args.scene) c.place_of.result (type_of (deriv_of c.in_ok-d.d)) (plain Truth) f))
    (λ f. IsRefused (check_in c.args.scene) (negate c.args.at c.args.part.now) c.args.context.now f)
    (λ f y m. inr (behind c.in_ok-d.ensures.typed
    (subst (λ n. IsUnequal (check_in c.args.scene) n (type_of (deriv_of c.in_ok-d.d)) (plain Truth) f) c.place_of.ensures
    (y m)))) c.negated.ensures.refused

pub infer_parts::infer_not-returns-clause-typed : goal.infer_parts::infer_not-returns-clause-typed
infer_parts::infer_not-returns-clause-typed t c =
    IfOk-weaker c.negated.result (λ w. IsKnown (check_in c.args.scene) (type_of (deriv_of c.in_ok-d.d)) (plain Truth) ×
    (deriv_of w ≡ row (plain Truth) (one (convert (type_of (deriv_of c.in_ok-d.d)) (plain Truth) (deriv_of c.in_ok-d.d))))) _
    (λ w s. negate_typed (check_in c.args.scene) _ _ _ _ _ _ (plain Truth) _ _ c.in_ok-d.ensures.typed refl refl s.0 refl s.1)
    c.negated.ensures.made

pub infer_parts::infer_send-infer-requires : goal.infer_parts::infer_send-infer-requires
infer_parts::infer_send-infer-requires t c = (
  omega (arith, c.decreases),
  (
    c.requires.set_up,
    (send_ready (check_in c.args.scene) c.args.at c.args.value.now c.args.channel.now c.args.context.now.variables
        c.requires.ready).0,
  ),
)

pub infer_parts::infer_send-infer-requires-2 : goal.infer_parts::infer_send-infer-requires-2
infer_parts::infer_send-infer-requires-2 t c = (
  omega (arith, c.decreases),
  (
    c.requires.set_up,
    later_ready (check_in c.args.scene) _ _ _ _ _ c.in_ok-d.ensures.typed
        (send_ready (check_in c.args.scene) c.args.at c.args.value.now c.args.channel.now c.args.context.now.variables
        c.requires.ready).1,
  ),
)

pub infer_parts::infer_send-returns-in_err-d-clause-refused : goal.infer_parts::infer_send-returns-in_err-d-clause-refused
infer_parts::infer_send-returns-in_err-d-clause-refused t c =
    let p = err_from_is_err_and c.from_residual.result c.from_residual.ensures.1 in
    rw (p.1, p.2) (λ m. inl (c.in_err-d.ensures.refused m))

pub infer_parts::infer_send-returns-in_err-h-clause-refused : goal.infer_parts::infer_send-returns-in_err-h-clause-refused
infer_parts::infer_send-returns-in_err-h-clause-refused t c =
    let p = err_from_is_err_and c.from_residual-in_err-h.result c.from_residual-in_err-h.ensures.1 in
    rw (p.1, p.2) (λ m. inr (behind c.in_ok-d.ensures.typed (inl (c.in_err-h.ensures.refused m))))

pub infer_parts::infer_send-returns-clause-refused : goal.infer_parts::infer_send-returns-clause-refused
infer_parts::infer_send-returns-clause-refused t c =
    IfErr-weaker c.sent_row.result (λ f. IsShown f
    (ShowsSend c.args.at (type_of (deriv_of c.in_ok-d.d)) (type_of (deriv_of c.in_ok-h.h)) f))
    (λ f. IsRefused (check_in c.args.scene) (send c.args.at c.args.value.now c.args.channel.now) c.args.context.now f)
    (λ f y m. inr (behind c.in_ok-d.ensures.typed (inr (behind c.in_ok-h.ensures.typed (y m))))) c.sent_row.ensures.refused

pub infer_parts::infer_send-returns-clause-typed : goal.infer_parts::infer_send-returns-clause-typed
infer_parts::infer_send-returns-clause-typed t c =
    both_ok c.sent_row.result (λ w. (b : Base) × (next : Tree) × (type_of (deriv_of c.in_ok-d.d) ≡ plain b) ×
    (step (type_of (deriv_of c.in_ok-h.h)) (Send b) ≡ Some next) ×
    (deriv_of w ≡ row next (two (deriv_of c.in_ok-d.d) (deriv_of c.in_ok-h.h)))) (λ w. IsInSize (type_of (deriv_of w))) _
    (λ w s n. send_typed (check_in c.args.scene) _ _ _ _ _ _ s.0 _ _ _ _ c.in_ok-d.ensures.typed c.in_ok-h.ensures.typed s.2 s.3
    s.4 n) c.sent_row.ensures.made c.sent_row.ensures.small

pub infer_parts::infer_receive-infer-requires : goal.infer_parts::infer_receive-infer-requires
infer_parts::infer_receive-infer-requires t c =
    (omega (arith, c.decreases), (c.requires.set_up, receive_ready (check_in c.args.scene) c.requires.ready))

pub infer_parts::infer_receive-returns-in_err-d-clause-refused : goal.infer_parts::infer_receive-returns-in_err-d-clause-refused
infer_parts::infer_receive-returns-in_err-d-clause-refused t c =
    let p = err_from_is_err_and c.from_residual.result c.from_residual.ensures.1 in
    rw (p.1, p.2) (λ m. inl (c.in_err-d.ensures.refused m))

pub infer_parts::infer_receive-returns-clause-refused : goal.infer_parts::infer_receive-returns-clause-refused
infer_parts::infer_receive-returns-clause-refused t c =
    IfErr-weaker c.received_row.result (λ f. IsShown f (ShowsReceive c.args.at (type_of (deriv_of c.in_ok-d.d)) f))
    (λ f. IsRefused (check_in c.args.scene) (receive c.args.at c.args.channel.now) c.args.context.now f)
    (λ f y m. inr (behind c.in_ok-d.ensures.typed (y m))) c.received_row.ensures.refused

pub infer_parts::infer_receive-returns-clause-typed : goal.infer_parts::infer_receive-returns-clause-typed
infer_parts::infer_receive-returns-clause-typed t c =
    both_ok c.received_row.result (λ w. (b : Base) × (next : Tree) ×
    (step (type_of (deriv_of c.in_ok-d.d)) (Receive b) ≡ Some next) ×
    (deriv_of w ≡ row (type.pair (plain b) next) (one (deriv_of c.in_ok-d.d)))) (λ w. IsInSize (type_of (deriv_of w))) _
    (λ w s n. receive_typed (check_in c.args.scene) _ _ _ _ s.0 s.1 _ _ _ c.in_ok-d.ensures.typed s.2 refl s.3 n)
    c.received_row.ensures.made c.received_row.ensures.small

pub infer_parts::infer_close-infer-requires : goal.infer_parts::infer_close-infer-requires
infer_parts::infer_close-infer-requires t c =
    (omega (arith, c.decreases), (c.requires.set_up, close_ready (check_in c.args.scene) c.requires.ready))

pub infer_parts::infer_close-returns-in_err-d-clause-refused : goal.infer_parts::infer_close-returns-in_err-d-clause-refused
infer_parts::infer_close-returns-in_err-d-clause-refused t c =
    let p = err_from_is_err_and c.from_residual.result c.from_residual.ensures.1 in
    rw (p.1, p.2) (λ m. inl (c.in_err-d.ensures.refused m))

pub infer_parts::infer_close-returns-clause-refused : goal.infer_parts::infer_close-returns-clause-refused
infer_parts::infer_close-returns-clause-refused t c =
    IfErr-weaker c.closed_row.result (λ f. IsShown f (ShowsClose c.args.at (type_of (deriv_of c.in_ok-d.d)) f))
    (λ f. IsRefused (check_in c.args.scene) (close c.args.at c.args.channel.now) c.args.context.now f)
    (λ f y m. inr (behind c.in_ok-d.ensures.typed (y m))) c.closed_row.ensures.refused

pub infer_parts::infer_close-returns-clause-typed : goal.infer_parts::infer_close-returns-clause-typed
infer_parts::infer_close-returns-clause-typed t c =
    IfOk-weaker c.closed_row.result (λ w. (next : Tree) × (step (type_of (deriv_of c.in_ok-d.d)) Close ≡ Some next) ×
    (deriv_of w ≡ row (plain Nothing) (one (deriv_of c.in_ok-d.d)))) _
    (λ w s. close_typed (check_in c.args.scene) _ _ _ _ s.0 _ _ c.in_ok-d.ensures.typed s.1 s.2) c.closed_row.ensures.made

pub infer_parts::infer_wait-infer-requires : goal.infer_parts::infer_wait-infer-requires
infer_parts::infer_wait-infer-requires t c =
    (omega (arith, c.decreases), (c.requires.set_up, wait_ready (check_in c.args.scene) c.requires.ready))

pub infer_parts::infer_wait-returns-in_err-d-clause-refused : goal.infer_parts::infer_wait-returns-in_err-d-clause-refused
infer_parts::infer_wait-returns-in_err-d-clause-refused t c =
    let p = err_from_is_err_and c.from_residual.result c.from_residual.ensures.1 in
    rw (p.1, p.2) (λ m. inl (c.in_err-d.ensures.refused m))

pub infer_parts::infer_wait-returns-clause-refused : goal.infer_parts::infer_wait-returns-clause-refused
infer_parts::infer_wait-returns-clause-refused t c =
    IfErr-weaker c.awaited_row.result (λ f. IsShown f (ShowsWait c.args.at (type_of (deriv_of c.in_ok-d.d)) f))
    (λ f. IsRefused (check_in c.args.scene) (wait c.args.at c.args.channel.now) c.args.context.now f)
    (λ f y m. inr (behind c.in_ok-d.ensures.typed (y m))) c.awaited_row.ensures.refused

pub infer_parts::infer_wait-returns-clause-typed : goal.infer_parts::infer_wait-returns-clause-typed
infer_parts::infer_wait-returns-clause-typed t c =
    IfOk-weaker c.awaited_row.result (λ w. (next : Tree) × (step (type_of (deriv_of c.in_ok-d.d)) Wait ≡ Some next) ×
    (deriv_of w ≡ row (plain Nothing) (one (deriv_of c.in_ok-d.d)))) _
    (λ w s. wait_typed (check_in c.args.scene) _ _ _ _ s.0 _ _ c.in_ok-d.ensures.typed s.1 s.2) c.awaited_row.ensures.made

pub infer_parts::infer_select-infer-requires : goal.infer_parts::infer_select-infer-requires
infer_parts::infer_select-infer-requires t c =
    (omega (arith, c.decreases), (c.requires.set_up, select_ready (check_in c.args.scene) c.requires.ready))

pub infer_parts::infer_select-returns-in_err-d-clause-refused : goal.infer_parts::infer_select-returns-in_err-d-clause-refused
infer_parts::infer_select-returns-in_err-d-clause-refused t c =
    let p = err_from_is_err_and c.from_residual.result c.from_residual.ensures.1 in
    rw (p.1, p.2) (λ m. inl (c.in_err-d.ensures.refused m))

pub infer_parts::infer_select-returns-clause-refused : goal.infer_parts::infer_select-returns-clause-refused
infer_parts::infer_select-returns-clause-refused t c =
    IfErr-weaker c.selected_row.result (λ f. IsShown f
    (ShowsSelect c.args.at c.args.label.now (type_of (deriv_of c.in_ok-d.d)) f))
    (λ f. IsRefused (check_in c.args.scene) (select c.args.at c.args.label.now c.args.channel.now) c.args.context.now f)
    (λ f y m. inr (behind c.in_ok-d.ensures.typed (y m))) c.selected_row.ensures.refused

pub infer_parts::infer_select-returns-clause-typed : goal.infer_parts::infer_select-returns-clause-typed
infer_parts::infer_select-returns-clause-typed t c =
    both_ok c.selected_row.result (λ w. (next : Tree) ×
    (step (type_of (deriv_of c.in_ok-d.d)) (Select c.args.label.now) ≡ Some next) ×
    (deriv_of w ≡ row next (one (deriv_of c.in_ok-d.d)))) (λ w. IsInSize (type_of (deriv_of w))) _
    (λ w s n. select_typed (check_in c.args.scene) _ _ _ _ _ s.0 _ _ c.in_ok-d.ensures.typed s.1 s.2 n)
    c.selected_row.ensures.made c.selected_row.ensures.small

pub infer_parts::infer_fork-infer-requires : goal.infer_parts::infer_fork-infer-requires
infer_parts::infer_fork-infer-requires t c =
    (omega (arith, c.decreases), (c.requires.set_up, fork_ready (check_in c.args.scene) c.requires.ready))

pub infer_parts::infer_fork-returns-in_err-d-clause-refused : goal.infer_parts::infer_fork-returns-in_err-d-clause-refused
infer_parts::infer_fork-returns-in_err-d-clause-refused t c =
    let p = err_from_is_err_and c.from_residual.result c.from_residual.ensures.1 in
    rw (p.1, p.2) (λ m. inl (c.in_err-d.ensures.refused m))

pub infer_parts::infer_fork-forked_row-requires : goal.infer_parts::infer_fork-forked_row-requires
infer_parts::infer_fork-forked_row-requires t c =
    c.in_ok-d.ensures.typed.fact.formed

pub infer_parts::infer_fork-returns-clause-refused : goal.infer_parts::infer_fork-returns-clause-refused
infer_parts::infer_fork-returns-clause-refused t c =
    IfErr-weaker c.forked_row.result (λ f. IsShown f
    (ShowsDropped c.args.scene.vars.now c.place_of.result (type_of (deriv_of c.in_ok-d.d)) f))
    (λ f. IsRefused (check_in c.args.scene) (fork c.args.at c.args.part.now) c.args.context.now f)
    (λ f y m. inr (behind c.in_ok-d.ensures.typed
    (subst (λ n. ShowsDropped c.args.scene.vars.now n (type_of (deriv_of c.in_ok-d.d)) f) c.place_of.ensures (y m))))
    c.forked_row.ensures.refused

pub infer_parts::infer_fork-returns-clause-typed : goal.infer_parts::infer_fork-returns-clause-typed
infer_parts::infer_fork-returns-clause-typed t c =
    IfOk-weaker c.forked_row.result (λ w. HasUse c.args.scene.vars.now (type_of (deriv_of c.in_ok-d.d)) Many ×
    (deriv_of w ≡ row (plain Nothing) (one (deriv_of c.in_ok-d.d)))) _
    (λ w s. fork_typed (check_in c.args.scene) _ _ _ _ _ _ c.in_ok-d.ensures.typed s.0 s.1) c.forked_row.ensures.made

pub infer_parts::infer_then-infer-requires : goal.infer_parts::infer_then-infer-requires
infer_parts::infer_then-infer-requires t c = (
  omega (arith, c.decreases),
  (
    c.requires.set_up,
    (seq_ready (check_in c.args.scene) c.args.at c.args.first.now c.args.second.now c.args.context.now.variables
        c.requires.ready).0,
  ),
)

pub infer_parts::infer_then-infer-requires-2 : goal.infer_parts::infer_then-infer-requires-2
infer_parts::infer_then-infer-requires-2 t c = (
  omega (arith, c.decreases),
  (
    c.requires.set_up,
    later_ready (check_in c.args.scene) _ _ _ _ _ c.in_ok-d.ensures.typed
        (seq_ready (check_in c.args.scene) c.args.at c.args.first.now c.args.second.now c.args.context.now.variables
        c.requires.ready).1,
  ),
)

pub infer_parts::infer_then-returns-in_err-d-clause-refused : goal.infer_parts::infer_then-returns-in_err-d-clause-refused
infer_parts::infer_then-returns-in_err-d-clause-refused t c =
    let p = err_from_is_err_and c.from_residual.result c.from_residual.ensures.1 in
    rw (p.1, p.2) (λ m. inl (c.in_err-d.ensures.refused m))

pub infer_parts::infer_then-may_be_dropped-requires : goal.infer_parts::infer_then-may_be_dropped-requires
infer_parts::infer_then-may_be_dropped-requires t c =
    subst (IsFormed c.args.scene.vars.now) (sym c.type_of.ensures) c.in_ok-d.ensures.typed.fact.formed

pub infer_parts::infer_then-returns-in_err-may_be_dropped-clause-refused :
    goal.infer_parts::infer_then-returns-in_err-may_be_dropped-clause-refused
infer_parts::infer_then-returns-in_err-may_be_dropped-clause-refused t c =
    let p = err_from_is_err_and c.from_residual-in_err-may_be_dropped.result c.from_residual-in_err-may_be_dropped.ensures.1 in
    rw (p.1, p.2) (λ m. inr (behind c.in_ok-d.ensures.typed
    (inl (subst (λ n. ShowsDropped c.args.scene.vars.now n (type_of (deriv_of c.in_ok-d.d)) c.in_err-may_be_dropped.field-0.0)
    c.place_of.ensures (subst (λ o. ShowsDropped c.args.scene.vars.now c.place_of.result o c.in_err-may_be_dropped.field-0.0)
    c.type_of.ensures (c.in_err-may_be_dropped.ensures.err m))))))

pub infer_parts::infer_then-returns-in_err-h-clause-refused : goal.infer_parts::infer_then-returns-in_err-h-clause-refused
infer_parts::infer_then-returns-in_err-h-clause-refused t c =
    let p = err_from_is_err_and c.from_residual-in_err-h.result c.from_residual-in_err-h.ensures.1 in
    rw (p.1, p.2) (λ m. inr (behind c.in_ok-d.ensures.typed
    (inr (
      (subst (λ o. HasUse c.args.scene.vars.now o Many) c.type_of.ensures c.in_ok-may_be_dropped.ensures.ok),
      c.in_err-h.ensures.refused m,
    ))))

pub infer_parts::infer_then-returns-clause-typed : goal.infer_parts::infer_then-returns-clause-typed
infer_parts::infer_then-returns-clause-typed t c =
    seq_typed (check_in c.args.scene) _ _ _ _ _ _ _ _ _ c.in_ok-d.ensures.typed
    (subst (λ o. HasUse c.args.scene.vars.now o Many) c.type_of.ensures c.in_ok-may_be_dropped.ensures.ok)
    c.in_ok-h.ensures.typed c.in_ok-sequence.ensures
