use Rattle.std.proofs.Common.{◌≡◌, ◌<◌, ◌≤◌, suc, max, ap, arith, rules}
use Rattle.fst_terms.specs.CoreTree.{core_height, cores_height, core_arms_height}
use Rattle.fst_terms.specs.ModelCoreView.{cores_of, core_arms_of}
use Rattle.fst_terms.specs.declared.core_term.Term.TheDeep.{size-Term, size-Arm}
use Rattle.fst_terms.proofs.CoreDrops.{arguments_fall, arms_fall}
use Rattle.fst_terms.proofs.+core.Goals as goal
use denote.Param.Weighed.{most}

pub core_term::Term::drop-drop-arguments-requires :
    goal.core_term::Term::drop-drop-arguments-requires
core_term::Term::drop-drop-arguments-requires t c κs =
    let high : suc (cores_height (cores_of c.in-Make._arguments.items)) ≡ core_height c.loop-left.self =
    ap core_height (rw c.in-Make.is at c.self.view_is) in
    let kept : core_height c.loop-left.self ≤ core_height c.args.self = c.loop-left.invariant in
    let falls : most size-Term c.in-Make._arguments.items < t =
    omega (arith, arguments_fall c.in-Make._arguments.items, high, kept, c.decreases) in
    (((falls, tt), tt), search rules)

pub core_term::Term::drop-drop-arms-requires : goal.core_term::Term::drop-drop-arms-requires
core_term::Term::drop-drop-arms-requires t c κs =
    let high : suc (max (core_height c.in-Case._value.value) (core_arms_height (core_arms_of c.in-Case._arms.items)))
    ≡ core_height c.loop-left.self = ap core_height (rw c.in-Case.is at c.self.view_is) in
    let kept : core_height c.loop-left.self ≤ core_height c.args.self = c.loop-left.invariant in
    let falls : most size-Arm c.in-Case._arms.items < t =
    omega (arith, arms_fall c.in-Case._arms.items, high, kept, c.decreases) in
    (((falls, tt), tt), search rules)

pub core_term::Term::drop-drop-arms-requires-in-Match :
    goal.core_term::Term::drop-drop-arms-requires-in-Match
core_term::Term::drop-drop-arms-requires-in-Match t c κs =
    let high : suc (max (core_height c.in-Match._channel.value) (core_arms_height (core_arms_of c.in-Match._arms.items)))
    ≡ core_height c.loop-left.self = ap core_height (rw c.in-Match.is at c.self.view_is) in
    let kept : core_height c.loop-left.self ≤ core_height c.args.self = c.loop-left.invariant in
    let falls : most size-Arm c.in-Match._arms.items < t =
    omega (arith, arms_fall c.in-Match._arms.items, high, kept, c.decreases) in
    (((falls, tt), tt), search rules)
