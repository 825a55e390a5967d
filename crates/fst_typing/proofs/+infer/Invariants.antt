use Rattle.std.proofs.Common.{◌≡◌, ◌+◌, ◌*◌, length, max, reverse}
use Rattle.fst_terms.specs.Around.{around, second}
use Rattle.fst_terms.specs.CoreTree.{CoreTree, core_arms_height, core_height, cores_height}
use Rattle.fst_terms.specs.ModelCoreView.{core_arms_of, cores_of}
use Rattle.fst_context.specs.Scope.{with_marks}
use Rattle.fst_derivations.specs.Deriv.{deriv_of}
use Rattle.fst_premises.specs.Shown.{place}
use Rattle.fst_premises.specs.Scenes.{check_in}
use Rattle.fst_typing.specs.Scenes.{binding_of}
use Rattle.fst_typing.specs.Typed.{IsTyped}
use Rattle.fst_typing.proofs.Fields.{FieldsSoFar}
use Rattle.fst_typing.proofs.ArmRows.{RowSoFar}
use Rattle.fst_typing.proofs.+infer.Given as goal

abbrev pub decreases-infer::infer : goal.decreases-infer::infer
decreases-infer::infer l = 8 * core_height l.term.now + 1

abbrev pub decreases-infer::infer_head : goal.decreases-infer::infer_head
decreases-infer::infer_head l = 8 * core_height l.head.now

abbrev pub decreases-infer::infer_step : goal.decreases-infer::infer_step
decreases-infer::infer_step l = 8 * core_height (second l.step) + 2

abbrev pub decreases-infer_under::infer_under : goal.decreases-infer_under::infer_under
decreases-infer_under::infer_under l = 8 * core_height l.body.now + 2

abbrev pub decreases-infer_under::infer_under_two : goal.decreases-infer_under::infer_under_two
decreases-infer_under::infer_under_two l = 8 * core_height l.body.now + 2

abbrev pub decreases-infer_under::infer_function : goal.decreases-infer_under::infer_function
decreases-infer_under::infer_function l = 8 * core_height l.body.now + 3

abbrev pub decreases-infer_parts::infer_if : goal.decreases-infer_parts::infer_if
decreases-infer_parts::infer_if l = 8 * max (core_height l.condition.now) (max (core_height l.yes.now) (core_height l.no.now)) + 2

abbrev pub decreases-infer_parts::infer_fields : goal.decreases-infer_parts::infer_fields
decreases-infer_parts::infer_fields l = 8 * cores_height (cores_of l.arguments.now) + 2

abbrev pub decreases-infer::infer-loop-step : goal.decreases-infer::infer-loop-step
decreases-infer::infer-loop-step l = length l.spine.steps.items

abbrev pub invariant-infer::infer-loop-step : goal.invariant-infer::infer-loop-step
invariant-infer::infer-loop-step l =
    (e : CoreTree) × (around e l.spine.steps.items ≡ l.term) ×
    IsTyped (check_in l.scene) l.fn.context l.context e (deriv_of l.found) × (l.at ≡ place e)

abbrev pub invariant-infer_parts::infer_fields-loop-i : goal.invariant-infer_parts::infer_fields-loop-i
invariant-infer_parts::infer_fields-loop-i l =
    FieldsSoFar (check_in l.scene) l.arguments l.fields l.i l.fn.context l.context l.parts.items

abbrev pub decreases-infer_arms::infer_fields_arm : goal.decreases-infer_arms::infer_fields_arm
decreases-infer_arms::infer_fields_arm l = 8 * core_height l.arm.now.body + 2

abbrev pub decreases-infer_arms::infer_rest_arm : goal.decreases-infer_arms::infer_rest_arm
decreases-infer_arms::infer_rest_arm l = 8 * core_height l.arm.now.body + 3

abbrev pub decreases-infer_arms::infer_arm : goal.decreases-infer_arms::infer_arm
decreases-infer_arms::infer_arm l = 8 * core_height l.arm.now.body + 4

abbrev pub decreases-infer_arms::infer_further : goal.decreases-infer_arms::infer_further
decreases-infer_arms::infer_further l = 8 * core_arms_height (core_arms_of l.arms.now) + 5

abbrev pub decreases-infer_arms::infer_arms : goal.decreases-infer_arms::infer_arms
decreases-infer_arms::infer_arms l = 8 * core_arms_height (core_arms_of l.arms.now) + 6

abbrev pub decreases-infer_arms::infer_case : goal.decreases-infer_arms::infer_case
decreases-infer_arms::infer_case l = 8 * max (core_height l.value.now) (core_arms_height (core_arms_of l.arms.now)) + 7

abbrev pub decreases-infer_arms::infer_match : goal.decreases-infer_arms::infer_match
decreases-infer_arms::infer_match l = 8 * max (core_height l.channel.now) (core_arms_height (core_arms_of l.arms.now)) + 7

-- the marks of the scope at the end of the first arm
abbrev pub invariant-infer_arms::infer_further-loop-i : goal.invariant-infer_arms::infer_further-loop-i
invariant-infer_arms::infer_further-loop-i l =
    RowSoFar (check_in l.scene) (binding_of l.binding) l.arms l.i l.fn.context (with_marks (reverse l.after) l.fn.context)
    (deriv_of l.fn.value) l.t l.parts.items ×
    (l.context ≡ l.fn.context) × (reverse l.before.items ≡ l.fn.context.there)

abbrev pub decreases-infer_parts::infer_pair : goal.decreases-infer_parts::infer_pair
decreases-infer_parts::infer_pair l = 8 * max (core_height l.first.now) (core_height l.second.now) + 2

abbrev pub decreases-infer_parts::infer_make : goal.decreases-infer_parts::infer_make
decreases-infer_parts::infer_make l = 8 * cores_height (cores_of l.arguments.now) + 3

abbrev pub decreases-infer_under::infer_let : goal.decreases-infer_under::infer_let
decreases-infer_under::infer_let l = 8 * max (core_height l.first.now) (core_height l.second.now) + 3

abbrev pub decreases-infer_under::infer_split : goal.decreases-infer_under::infer_split
decreases-infer_under::infer_split l = 8 * max (core_height l.first.now) (core_height l.second.now) + 3

abbrev pub decreases-infer_parts::infer_not : goal.decreases-infer_parts::infer_not
decreases-infer_parts::infer_not l = 8 * core_height l.part.now + 2

abbrev pub decreases-infer_parts::infer_send : goal.decreases-infer_parts::infer_send
decreases-infer_parts::infer_send l = 8 * max (core_height l.value.now) (core_height l.channel.now) + 2

abbrev pub decreases-infer_parts::infer_receive : goal.decreases-infer_parts::infer_receive
decreases-infer_parts::infer_receive l = 8 * core_height l.channel.now + 2

abbrev pub decreases-infer_parts::infer_close : goal.decreases-infer_parts::infer_close
decreases-infer_parts::infer_close l = 8 * core_height l.channel.now + 2

abbrev pub decreases-infer_parts::infer_wait : goal.decreases-infer_parts::infer_wait
decreases-infer_parts::infer_wait l = 8 * core_height l.channel.now + 2

abbrev pub decreases-infer_parts::infer_select : goal.decreases-infer_parts::infer_select
decreases-infer_parts::infer_select l = 8 * core_height l.channel.now + 2

abbrev pub decreases-infer_parts::infer_fork : goal.decreases-infer_parts::infer_fork
decreases-infer_parts::infer_fork l = 8 * core_height l.part.now + 2

abbrev pub decreases-infer_parts::infer_then : goal.decreases-infer_parts::infer_then
decreases-infer_parts::infer_then l = 8 * max (core_height l.first.now) (core_height l.second.now) + 2
