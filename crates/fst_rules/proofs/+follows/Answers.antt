use Rattle.std.proofs.Common.{◌<◌, ◌+◌, drop, ◌≡◌, ◌∙◌, ◌∷◌, sym, ap, arith, length}
use Rattle.std.specs.Prelude.{is_some}
use Rattle.std.proofs.lemmas.List.{length-reverse, drop_more}
use mathlib.Core.List.{reverse}
use Rattle.fst_terms.proofs.Laws.{core_arms_height_at}
use Rattle.fst_terms.specs.CoreTree.{core_height, core_arms_height}
use Rattle.fst_terms.specs.ModelCoreView.{core_arms_of}
use Rattle.std.proofs.lemmas.Result.{IfOk-weaker}
use Rattle.fst_context.specs.Scope.{Variable, with_marks}
use Rattle.fst_derivations.specs.Deriv.{deriv_of, parts_of}
use Rattle.fst_rules.specs.Levels.{surroundings_at, rest_walk, binding_of}
use Rattle.fst_rules.specs.Walks.{next, came, walk_of, arm_walk, bound_types, further, further_walk}
use Rattle.fst_fits.specs.Tests.{same_tree}
use Rattle.fst_rules.proofs.ArmLaws.{entered_long}
use Rattle.fst_rules.proofs.FollowLaws.{arm_keeps, further_done, further_keeps, marked_again, marked_back, further_step, arms_step, came_keeps, inside_keeps, entered_there, begun_there, marks_long, restored, branches_none, branches_done, not_back}
use Rattle.fst_rules.proofs.+follows.Goals as goal

-- ---- two branches

pub inside::branches_follow-exchange-after-requires : goal.inside::branches_follow-exchange-after-requires
inside::branches_follow-exchange-after-requires t c =
    marks_long c.in_ok-before.before.items c.args.context.now c.follows.new.context c.in_ok-before.ensures
    (came_keeps (surroundings_at c.args.place.now) c.args.first.now
    (deriv_of c.args.first_derivation.now) c.args.context.now c.follows.new.context c.in_ok-follows.field-0
    c.in_ok-follows.ensures c.if-not-branch.false)

pub inside::branches_follow-returns-then-not-branch-2 : goal.inside::branches_follow-returns-then-not-branch-2
inside::branches_follow-returns-then-not-branch-2 t c =
    let m = surroundings_at c.args.place.now in
    let s = c.args.context.now in
    let r = c.follows.new.context in
    let k = came_keeps m c.args.first.now (deriv_of c.args.first_derivation.now) s r c.in_ok-follows.field-0
    c.in_ok-follows.ensures c.if-not-branch.false in
    branches_none (walk_of m c.args.first.now (deriv_of c.args.first_derivation.now))
    (walk_of m c.args.second.now (deriv_of c.args.second_derivation.now)) s r c.exchange-after.new.self
    c.follows-2.new.context
    c.in_ok-follows.field-0 c.in_ok-follows-2.field-0 c.in_ok-follows.ensures c.if-not-branch.false
    (restored c.in_ok-before.before.items s r c.exchange-after.new.self c.in_ok-before.ensures k c.exchange-after.ensures.after)
    c.in_ok-follows-2.ensures c.if-not-branch-2.true

pub inside::branches_follow-differs-requires : goal.inside::branches_follow-differs-requires
inside::branches_follow-differs-requires t c =
    let m = surroundings_at c.args.place.now in
    let s = c.args.context.now in
    let r = c.follows.new.context in
    let k = came_keeps m c.args.first.now (deriv_of c.args.first_derivation.now) s r c.in_ok-follows.field-0
    c.in_ok-follows.ensures c.if-not-branch.false in
    let l = came_keeps m c.args.second.now (deriv_of c.args.second_derivation.now) c.exchange-after.new.self
    c.follows-2.new.context c.in_ok-follows-2.field-0 c.in_ok-follows-2.ensures c.if-not-branch-2.false in
    let same = restored c.in_ok-before.before.items s r c.exchange-after.new.self c.in_ok-before.ensures k
    c.exchange-after.ensures.after in
    ap length c.deref.ensures.value
    ∙ sym (length-reverse c.exchange-after.result.items) ∙ ap length c.exchange-after.ensures.given ∙ k.marks
    ∙ sym (ap (λ z. length z.there) same) ∙ sym l.marks

pub inside::branches_follow-returns : goal.inside::branches_follow-returns
inside::branches_follow-returns t c =
    let m = surroundings_at c.args.place.now in
    let s = c.args.context.now in
    let r = c.follows.new.context in
    let k = came_keeps m c.args.first.now (deriv_of c.args.first_derivation.now) s r c.in_ok-follows.field-0
    c.in_ok-follows.ensures c.if-not-branch.false in
    branches_done (walk_of m c.args.first.now (deriv_of c.args.first_derivation.now))
    (walk_of m c.args.second.now (deriv_of c.args.second_derivation.now)) s r c.exchange-after.new.self
    c.follows-2.new.context
    c.in_ok-follows.field-0 c.in_ok-follows-2.field-0 c.deref.result.now c.differs.result c.in_ok-follows.ensures
    c.if-not-branch.false
    (restored c.in_ok-before.before.items s r c.exchange-after.new.self c.in_ok-before.ensures k c.exchange-after.ensures.after)
    c.in_ok-follows-2.ensures c.if-not-branch-2.false
    (ap reverse c.deref.ensures.value ∙ c.exchange-after.ensures.given) c.differs.ensures.none c.differs.ensures.differs
    ∙ ap (λ b. came b c.follows-2.new.context) (not_back c.is_none.result (is_some c.differs.result) (sym c.is_none.ensures))

-- ---- levels

pub following::follows-returns-in_default : goal.following::follows-returns-in_default
following::follows-returns-in_default t c = let w = rw c.in_default.is at c.in_ok-walk.ensures.walk in ap
    (λ F. F c.args.context.now) w

pub following::follows-returns-then-not-branch : goal.following::follows-returns-then-not-branch
following::follows-returns-then-not-branch t c =
    let w = rw c.in-Some.is at c.in_ok-walk.ensures.walk in
    ap (λ F. F c.args.context.now) w
    ∙ ap (λ o. next o (rest_walk (surroundings_at c.args.place.now) c.in-Some.walk.levels.items))
    (c.in_ok-head_follows.ensures ∙ ap (λ b. came b c.head_follows.new.context) c.if-not-branch.true)

pub following::follows-loop-level-init : goal.following::follows-loop-level-init
following::follows-loop-level-init t c =
    let w = rw c.in-Some.is at c.in_ok-walk.ensures.walk in
    let l = rw c.in-Some.is at c.in_ok-walk.ensures.lower in
    record {
      walk = ap (λ F. F c.args.context.now) w
          ∙ ap (λ o. next o (rest_walk (surroundings_at c.args.place.now) c.in-Some.walk.levels.items))
          (c.in_ok-head_follows.ensures ∙ ap (λ b. came b c.head_follows.new.context) c.if-not-branch.false);
      lower = l;
    }

pub following::follows-follows-requires : goal.following::follows-follows-requires
following::follows-follows-requires t c =
    let low = c.in-Some-pop_level.ensures.low (core_height c.args.term.now) c.loop-level.invariant.lower in
    (omega (arith, low, c.decreases), tt)

pub following::follows-loop-level-preserved : goal.following::follows-loop-level-preserved
following::follows-loop-level-preserved t c =
    let m = surroundings_at c.args.place.now in
    record {
      walk = c.loop-level.invariant.walk
          ∙ ap (λ F. F c.loop-level.context) (c.in-Some-pop_level.ensures.walk m)
          ∙ ap (λ o. next o (rest_walk m c.pop_level.new.levels.items))
          (c.in_ok-follows.ensures ∙ ap (λ b. came b c.follows.new.context) c.if-not-branch-2.false);
      lower = c.in-Some-pop_level.ensures.lower (core_height c.args.term.now) c.loop-level.invariant.lower;
    }

-- ---- inside variables and bodies

pub inside::follows_inside-closes-requires : goal.inside::follows_inside-closes-requires
inside::follows_inside-closes-requires t c =
    let v : Variable = record { type = c.in_ok-copy.field-0; uses = c.args.uses } in
    entered_there c.args.binder.now.name v c.args.context.now c.enter.new.self c.follows.new.context c.in_ok-enter.ensures.entered
    (came_keeps (surroundings_at c.args.place.now) c.args.body.now
    (deriv_of c.args.derivation.now) c.enter.new.self c.follows.new.context c.in_ok-follows.field-0 c.in_ok-follows.ensures
    c.if-not-branch.false)

pub inside::function_follows-end-requires : goal.inside::function_follows-end-requires
inside::function_follows-end-requires t c =
    begun_there c.args.context.now c.begin.new.self c.follows_inside-in-Many.new.context c.in_ok-begin-in-Many.ensures.begun
    (inside_keeps (surroundings_at c.args.place.now) c.args.binder.now.name
    (record { type = c.args.ty.now; uses = c.args.use_of }) c.args.body.now
    (deriv_of c.args.derivation.now) c.begin.new.self c.follows_inside-in-Many.new.context
    c.in_ok-follows_inside-in-Many.field-0 c.in_ok-follows_inside-in-Many.ensures c.if-not-branch.false)

pub inside::split_follows-closes-requires : goal.inside::split_follows-closes-requires
inside::split_follows-closes-requires t c =
    let v : Variable = record { type = c.in_ok-copy.field-0; uses = c.in-Some-2.left_use } in
    entered_there c.args.left_binder.now.name v c.follows.new.context c.enter.new.self c.follows_inside.new.context
    c.in_ok-enter.ensures.entered
    (inside_keeps (surroundings_at c.args.place.now) c.args.right_binder.now.name
    (record { type = c.in-Some-pair_parts.right.now; uses = c.in-Some-3.right_use }) c.args.body.now
    (deriv_of c.in-Some.second.now) c.enter.new.self c.follows_inside.new.context
    c.in_ok-follows_inside.field-0 c.in_ok-follows_inside.ensures c.if-not-branch-2.false)

-- ---- arms

pub arms::arm_follows-close_all-requires : goal.arms::arm_follows-close_all-requires
arms::arm_follows-close_all-requires t c =
    let e = entered_long c.args.place.now.vars.now c.deref.result.now c.deref-2.result.now c.args.context.now
    c.enter_all.new.context (c.in_ok-enter_all.ensures ∙ ap (λ b. came b c.enter_all.new.context) c.if-not-branch.false) in
    let k = came_keeps (surroundings_at c.args.place.now) c.args.arm.now.body
    (deriv_of c.args.derivation.now) c.enter_all.new.context c.follows.new.context c.in_ok-follows.field-0
    c.in_ok-follows.ensures c.if-not-branch-2.false in
    let n = ap length k.variables in
    let same = ap length c.deref.ensures.value in
    omega (arith, e, n, same, c.len.ensures, c.args.arm.now.binders.ok.0)

pub arms::arms_follow-further_arms_follow-requires : goal.arms::arms_follow-further_arms_follow-requires
arms::arms_follow-further_arms_follow-requires t c =
    let m = surroundings_at c.args.place.now in
    let a = c.in-Some.arm.now in
    let p = c.in-Some-split_first.first.now in
    let r = c.arm_follows.new.context in
    let k = arm_keeps m (binding_of c.args.binds) a.label a.binders.items a.body
    (deriv_of p) c.args.context.now r c.in_ok-arm_follows.field-0 c.in_ok-arm_follows.ensures c.if-not-branch.false in
    let high = ap (λ z. core_arms_height (core_arms_of z)) c.in-Some.ensures.cases.0 in (
      omega (arith, high, c.decreases),
      ap length c.deref.ensures.value
          ∙ marks_long c.in_ok-before.before.items c.args.context.now r c.in_ok-before.ensures k,
    )

pub arms::arms_follow-returns : goal.arms::arms_follow-returns
arms::arms_follow-returns t c =
    let m = surroundings_at c.args.place.now in
    let B = binding_of c.args.binds in
    let ty = c.args.ty.now in
    let s = c.args.context.now in
    let r = c.arm_follows.new.context in
    let a = c.in-Some.arm.now in
    let p = c.in-Some-split_first.first.now in
    let k = arm_keeps m B a.label a.binders.items a.body
    (deriv_of p) s r c.in_ok-arm_follows.field-0 c.in_ok-arm_follows.ensures c.if-not-branch.false in
    let back = ap (λ z. with_marks (reverse z) r) c.deref.ensures.value
    ∙ marked_back c.in_ok-before.before.items s r c.in_ok-before.ensures k in
    let step = arms_step m B ty s r c.args.arms.now c.in-Some.others.now c.args.parts.now c.in-Some-split_first.rest.now a p
    c.is_same.result c.in_ok-arm_follows.field-0
    c.in-Some.ensures.cases.0 c.in-Some-split_first.ensures.cases.0
    (c.is_same.ensures ∙ ap (λ z. same_tree z ty) c.type_of.ensures) c.if-not-is_same.false c.in_ok-arm_follows.ensures
    c.if-not-branch.false in
    let others = ap (λ z. further_walk m B (core_arms_of c.in-Some.others.now) ty (parts_of c.in-Some-split_first.rest.now) z r)
    (sym back) in
    IfOk-weaker c.further_arms_follow.result _ _ (λ b h. step ∙ others ∙ h) c.further_arms_follow.ensures

pub arms::further_arm_follows-differs-requires : goal.arms::further_arm_follows-differs-requires
arms::further_arm_follows-differs-requires t c =
    let m = surroundings_at c.args.place.now in
    let s = c.exchange-after.new.self in
    let k = arm_keeps m (binding_of c.args.binds) c.args.arm.now.label c.args.arm.now.binders.items c.args.arm.now.body
    (deriv_of c.args.derivation.now) s c.arm_follows.new.context c.in_ok-arm_follows.field-0 c.in_ok-arm_follows.ensures
    c.if-not-branch.false in
    ap length c.deref.ensures.value
    ∙ sym (length-reverse c.exchange-after.result.items) ∙ ap length c.exchange-after.ensures.given
    ∙ sym c.requires ∙ ap length (sym c.in_ok-marks.ensures.items) ∙ sym (length-reverse c.in_ok-marks.marks.items)
    ∙ sym (ap (λ z. length z.there) c.exchange-after.ensures.after) ∙ sym k.marks

pub arms::further_arm_follows-returns : goal.arms::further_arm_follows-returns
arms::further_arm_follows-returns t c =
    let m = surroundings_at c.args.place.now in
    let G = arm_walk m.vars (bound_types m (binding_of c.args.binds) c.args.arm.now.label) c.args.arm.now.binders.items
    (walk_of m c.args.arm.now.body (deriv_of c.args.derivation.now)) in
    let s = with_marks (reverse c.args.before.now) c.args.context.now in
    let is : c.exchange-after.new.self ≡ s = c.exchange-after.ensures.after ∙ ap
    (λ z. with_marks (reverse z) c.args.context.now) c.in_ok-marks.ensures.items in
    further_done G s c.args.context.now c.arm_follows.new.context c.in_ok-arm_follows.field-0 c.deref.result.now c.differs.result
    (ap G (sym is) ∙ c.in_ok-arm_follows.ensures) c.if-not-branch.false
    (ap reverse c.deref.ensures.value ∙ c.exchange-after.ensures.given) c.differs.ensures.none c.differs.ensures.differs
    ∙ ap (λ b. came b c.arm_follows.new.context) (not_back c.is_none.result (is_some c.differs.result) (sym c.is_none.ensures))

pub arms::further_arms_follow-further_arm_follows-requires :
    goal.arms::further_arms_follow-further_arm_follows-requires
arms::further_arms_follow-further_arm_follows-requires t c =
    let high = core_arms_height_at c.args.arms.now c.loop-i.i c.index-arms-i.result (omega arith) in
    let same = ap (λ b. core_height b.body) c.index-arms-i.is in
    (omega (arith, high, same, c.decreases), sym (length-reverse c.args.before.now) ∙ sym c.loop-i.invariant.keeps.marks)

pub arms::further_arms_follow-loop-i-preserved : goal.arms::further_arms_follow-loop-i-preserved
arms::further_arms_follow-loop-i-preserved t c =
    let m = surroundings_at c.args.place.now in
    let B = binding_of c.args.binds in
    let s = with_marks (reverse c.args.before.now) c.args.context.now in
    let r = c.loop-i.context in
    let y = c.further_arm_follows.new.context in
    let a = c.index-arms-i.result in
    let p = c.index-parts-i.result in
    let is = marked_again (reverse c.args.before.now) c.args.context.now r c.loop-i.invariant.keeps in
    let below : c.loop-i.i < length c.args.arms.now = omega arith in
    let within : c.loop-i.i < length c.args.parts.now = omega arith in
    let arms = drop_more c.args.arms.now c.loop-i.i a below ∙ ap
    (λ z. z ∷ drop (c.loop-i.i + 1) c.args.arms.now) (sym c.index-arms-i.is) in
    let parts = drop_more c.args.parts.now c.loop-i.i p within ∙ ap
    (λ z. z ∷ drop (c.loop-i.i + 1) c.args.parts.now) (sym c.index-parts-i.is) in
    let G = arm_walk m.vars (bound_types m B a.label) a.binders.items (walk_of m a.body (deriv_of p)) in
    let done = ap (λ z. further G z r) (sym is) ∙ c.in_ok-further_arm_follows.ensures in
    record {
      walk = sym (further_step m B c.args.ty.now s c.args.arms.now c.args.parts.now c.loop-i.i a p r y c.is_same.result
          c.in_ok-further_arm_follows.field-0 arms parts
          (c.is_same.ensures ∙ ap (λ z. same_tree z c.args.ty.now) c.type_of.ensures) c.if-not-is_same.false done
          c.if-not-branch.false) ∙ c.loop-i.invariant.walk;
      keeps = further_keeps m B a.label a.binders.items a.body
          (deriv_of p) s r y c.in_ok-further_arm_follows.field-0 done c.if-not-branch.false;
    }
