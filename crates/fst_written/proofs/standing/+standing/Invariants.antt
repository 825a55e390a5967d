use Rattle.std.proofs.Common.{◌≡◌, ◌+◌, ◌*◌, ◌++◌, length, drop, max}
use Rattle.fst_terms.specs.CoreTree.{CoreTree, core_height, cores_height, core_arms_height}
use Rattle.fst_terms.specs.ModelCoreView.{cores_of, core_arms_of}
use Rattle.fst_terms.specs.Around.{second, around}
use Rattle.fst_derivations.specs.Modules.{types_in, types_in_all, types_in_arms}
use Rattle.fst_written.proofs.standing.+standing.Given as goal

abbrev pub decreases-add_standing : goal.decreases-add_standing
decreases-add_standing l = 4 * core_height l.term.now + 1

abbrev pub decreases-add_head : goal.decreases-add_head
decreases-add_head l = 4 * core_height l.head.now

abbrev pub decreases-add_step : goal.decreases-add_step
decreases-add_step l = 4 * core_height (second l.step) + 2

abbrev pub decreases-add_two : goal.decreases-add_two
decreases-add_two l = 4 * max (core_height l.first.now) (core_height l.second.now) + 2

abbrev pub decreases-add_all : goal.decreases-add_all
decreases-add_all l = 4 * cores_height (cores_of l.terms.now) + 2

abbrev pub decreases-add_arms : goal.decreases-add_arms
decreases-add_arms l = 4 * core_arms_height (core_arms_of l.arms.now) + 2

abbrev pub decreases-add_standing-loop-step : goal.decreases-add_standing-loop-step
decreases-add_standing-loop-step l = length l.spine.steps.items

abbrev pub invariant-add_standing-loop-step : goal.invariant-add_standing-loop-step
invariant-add_standing-loop-step l = (t : CoreTree) × (around t l.spine.steps.items ≡ l.term) ×
    (l.out.items ≡ l.fn.out.items ++ types_in t)

abbrev pub invariant-add_all-loop-term : goal.invariant-add_all-loop-term
invariant-add_all-loop-term l = l.out.items ++ types_in_all
    (cores_of (drop l.term-index l.terms)) ≡ l.fn.out.items ++ types_in_all (cores_of l.terms)

abbrev pub invariant-add_arms-loop-arm : goal.invariant-add_arms-loop-arm
invariant-add_arms-loop-arm l = l.out.items ++ types_in_arms
    (core_arms_of (drop l.arm-index l.arms)) ≡ l.fn.out.items ++ types_in_arms (core_arms_of l.arms)
