use Rattle.std.proofs.Common.{◌≡◌, ◌+◌, ◌*◌, length, max, drop}
use mathlib.Core.List.{reverse}
use Rattle.fst_terms.specs.ModelCoreView.{core_arms_of, cores_of}
use Rattle.fst_context.specs.Scope.{with_marks}
use Rattle.fst_terms.specs.CoreTree.{core_height, cores_height, core_arms_height}
use Rattle.fst_derivations.specs.Deriv.{deriv_of, parts_of}
use Rattle.fst_rules.specs.Levels.{AreLower, binding_of, rest_walk, surroundings_at}
use Rattle.fst_rules.specs.Walks.{walk_of, fields_walk, further_walk, Keeps}
use Rattle.fst_rules.proofs.+follows.Given as goal

abbrev pub decreases-following::follows : goal.decreases-following::follows
decreases-following::follows l = 8 * core_height l.term.now + 1

abbrev pub decreases-following::head_follows : goal.decreases-following::head_follows
decreases-following::head_follows l = 8 * core_height l.head.now

abbrev pub decreases-following::both_follow : goal.decreases-following::both_follow
decreases-following::both_follow l = 8 * max (core_height l.first.now) (core_height l.second.now) + 2

abbrev pub decreases-inside::branches_follow : goal.decreases-inside::branches_follow
decreases-inside::branches_follow l = 8 * max (core_height l.first.now) (core_height l.second.now) + 2

abbrev pub decreases-inside::follows_inside : goal.decreases-inside::follows_inside
decreases-inside::follows_inside l = 8 * core_height l.body.now + 2

abbrev pub decreases-inside::function_follows : goal.decreases-inside::function_follows
decreases-inside::function_follows l = 8 * core_height l.body.now + 3

abbrev pub decreases-inside::lambda_follows : goal.decreases-inside::lambda_follows
decreases-inside::lambda_follows l = 8 * core_height l.body.now + 4

abbrev pub decreases-inside::let_follows : goal.decreases-inside::let_follows
decreases-inside::let_follows l = 8 * max (core_height l.value.now) (core_height l.body.now) + 3

abbrev pub decreases-inside::split_follows : goal.decreases-inside::split_follows
decreases-inside::split_follows l = 8 * max (core_height l.value.now) (core_height l.body.now) + 3

abbrev pub decreases-inside::if_follows : goal.decreases-inside::if_follows
decreases-inside::if_follows l = 8 * max (core_height l.condition.now)
    (max (core_height l.then.now) (core_height l.otherwise.now)) + 3

abbrev pub decreases-following::pair_follows : goal.decreases-following::pair_follows
decreases-following::pair_follows l = 8 * max (core_height l.first.now) (core_height l.second.now) + 3

abbrev pub decreases-following::send_follows : goal.decreases-following::send_follows
decreases-following::send_follows l = 8 * max (core_height l.first.now) (core_height l.second.now) + 3

abbrev pub decreases-following::seq_follows : goal.decreases-following::seq_follows
decreases-following::seq_follows l = 8 * max (core_height l.first.now) (core_height l.second.now) + 3

abbrev pub decreases-following::negate_follows : goal.decreases-following::negate_follows
decreases-following::negate_follows l = 8 * core_height l.part.now + 2

abbrev pub decreases-following::receive_follows : goal.decreases-following::receive_follows
decreases-following::receive_follows l = 8 * core_height l.part.now + 2

abbrev pub decreases-following::close_follows : goal.decreases-following::close_follows
decreases-following::close_follows l = 8 * core_height l.part.now + 2

abbrev pub decreases-following::wait_follows : goal.decreases-following::wait_follows
decreases-following::wait_follows l = 8 * core_height l.part.now + 2

abbrev pub decreases-following::select_follows : goal.decreases-following::select_follows
decreases-following::select_follows l = 8 * core_height l.part.now + 2

abbrev pub decreases-following::fork_follows : goal.decreases-following::fork_follows
decreases-following::fork_follows l = 8 * core_height l.part.now + 2

abbrev pub decreases-following::follows-loop-level : goal.decreases-following::follows-loop-level
decreases-following::follows-loop-level l = length l.walk.levels.items

-- what is left to be walked is the levels that are left
abbrev pub invariant-following::follows-loop-level : goal.invariant-following::follows-loop-level
invariant-following::follows-loop-level l = record {
  walk : walk_of (surroundings_at l.place) l.term (deriv_of l.derivation) l.fn.context ≡ rest_walk
      (surroundings_at l.place) l.walk.levels.items l.context;
  lower : AreLower (core_height l.term) l.walk.levels.items;
}

abbrev pub decreases-arms::fields_follow : goal.decreases-arms::fields_follow
decreases-arms::fields_follow l = 8 * cores_height (cores_of l.terms.now) + 2

abbrev pub decreases-arms::make_follows : goal.decreases-arms::make_follows
decreases-arms::make_follows l = 8 * cores_height (cores_of l.terms.now) + 3

abbrev pub decreases-arms::arm_follows : goal.decreases-arms::arm_follows
decreases-arms::arm_follows l = 8 * core_height l.arm.now.body + 2

abbrev pub decreases-arms::further_arm_follows : goal.decreases-arms::further_arm_follows
decreases-arms::further_arm_follows l = 8 * core_height l.arm.now.body + 3

abbrev pub decreases-arms::further_arms_follow : goal.decreases-arms::further_arms_follow
decreases-arms::further_arms_follow l = 8 * core_arms_height (core_arms_of l.arms.now) + 4

abbrev pub decreases-arms::arms_follow : goal.decreases-arms::arms_follow
decreases-arms::arms_follow l = 8 * core_arms_height (core_arms_of l.arms.now) + 5

abbrev pub decreases-arms::case_follows : goal.decreases-arms::case_follows
decreases-arms::case_follows l = 8 * max (core_height l.value.now) (core_arms_height (core_arms_of l.arms.now)) + 6

abbrev pub decreases-arms::match_follows : goal.decreases-arms::match_follows
decreases-arms::match_follows l = 8 * max (core_height l.channel.now) (core_arms_height (core_arms_of l.arms.now)) + 6

abbrev pub invariant-arms::fields_follow-loop-i : goal.invariant-arms::fields_follow-loop-i
invariant-arms::fields_follow-loop-i l =
    fields_walk (surroundings_at l.place) (cores_of (drop l.i l.terms)) (drop l.i l.fields)
    (parts_of (drop l.i l.parts)) l.context ≡ fields_walk (surroundings_at l.place) (cores_of l.terms) l.fields
    (parts_of l.parts) l.fn.context

abbrev pub invariant-arms::further_arms_follow-loop-i : goal.invariant-arms::further_arms_follow-loop-i
invariant-arms::further_arms_follow-loop-i l = record {
  walk : further_walk (surroundings_at l.place) (binding_of l.binds) (core_arms_of (drop l.i l.arms)) l.ty
      (parts_of (drop l.i l.parts)) (with_marks (reverse l.before) l.fn.context) l.context
      ≡ further_walk (surroundings_at l.place) (binding_of l.binds) (core_arms_of l.arms) l.ty (parts_of l.parts)
      (with_marks (reverse l.before) l.fn.context) l.fn.context;
  keeps : Keeps (with_marks (reverse l.before) l.fn.context) l.context;
}
