use Rattle.std.proofs.Common.{◌≤◌, ◌+◌, ◌*◌, drop, length, max, take}
use Rattle.fst_terms.specs.CoreCount.{core_arms_count}
use Rattle.fst_terms.specs.CoreTree.{core_height, core_arms_height, cores_height}
use Rattle.fst_terms.specs.ModelCoreView.{core_arms_of, cores_of}
use Rattle.fst_code.specs.Written.{Extends, Leaves, WritesAll, compiled}
use Rattle.fst_code.specs.Arms.{AreWritten}
use Rattle.fst_code.proofs.+write.Given as goal

abbrev pub decreases-terms::write : goal.decreases-terms::write
decreases-terms::write l = 8 * core_height l.term.now + 1

abbrev pub decreases-terms::write_behind : goal.decreases-terms::write_behind
decreases-terms::write_behind l = 8 * core_height l.term.now

abbrev pub decreases-parts::write_under : goal.decreases-parts::write_under
decreases-parts::write_under l = 8 * core_height l.body.now + 2

abbrev pub decreases-parts::write_task : goal.decreases-parts::write_task
decreases-parts::write_task l = 8 * core_height l.body.now + 2

abbrev pub decreases-parts::write_function : goal.decreases-parts::write_function
decreases-parts::write_function l = 8 * core_height l.body.now + 3

abbrev pub decreases-parts::write_all : goal.decreases-parts::write_all
decreases-parts::write_all l = 8 * cores_height (cores_of l.terms.now) + 2

abbrev pub decreases-parts::write_make : goal.decreases-parts::write_make
decreases-parts::write_make l = 8 * cores_height (cores_of l.arguments.now) + 3

abbrev pub decreases-parts::write_second : goal.decreases-parts::write_second
decreases-parts::write_second l = 8 * core_height l.second.now + 2

abbrev pub decreases-parts::write_then : goal.decreases-parts::write_then
decreases-parts::write_then l = 8 * core_height l.second.now + 2

abbrev pub decreases-parts::write_let : goal.decreases-parts::write_let
decreases-parts::write_let l = 8 * core_height l.body.now + 3

abbrev pub decreases-parts::write_split : goal.decreases-parts::write_split
decreases-parts::write_split l = 8 * core_height l.body.now + 3

abbrev pub decreases-branches::write_if : goal.decreases-branches::write_if
decreases-branches::write_if l = 8 * max (core_height l.yes.now) (core_height l.no.now) + 2

abbrev pub decreases-terms::write-loop-first : goal.decreases-terms::write-loop-first
decreases-terms::write-loop-first l = core_height l.rest

abbrev pub invariant-terms::write-loop-first : goal.invariant-terms::write-loop-first
invariant-terms::write-loop-first l = record {
  left : Leaves (compiled l.given.families.now l.fn.out) l.fn.later.items
      (compiled l.given.families.now l.out) l.later.items l.fn.term l.rest;
  low : core_height l.rest ≤ core_height l.fn.term;
}

abbrev pub invariant-parts::write_all-loop-i : goal.invariant-parts::write_all-loop-i
invariant-parts::write_all-loop-i l = WritesAll (compiled l.given.families.now l.fn.out) l.fn.later.items
    (compiled l.given.families.now l.out) l.later.items (cores_of (drop l.i l.terms))

abbrev pub decreases-branches::write_arm : goal.decreases-branches::write_arm
decreases-branches::write_arm l = 8 * core_height l.arm.now.body + 3

abbrev pub decreases-branches::write_arms : goal.decreases-branches::write_arms
decreases-branches::write_arms l = 8 * core_arms_height (core_arms_of l.arms.now) + 4

abbrev pub decreases-branches::write_branches : goal.decreases-branches::write_branches
decreases-branches::write_branches l = 8 * core_arms_height (core_arms_of l.arms.now) + 5

abbrev pub decreases-branches::write_case : goal.decreases-branches::write_case
decreases-branches::write_case l = 8 * core_arms_height (core_arms_of l.arms.now) + 6

abbrev pub decreases-branches::write_match : goal.decreases-branches::write_match
decreases-branches::write_match l = 8 * core_arms_height (core_arms_of l.arms.now) + 6

abbrev pub invariant-branches::write_arms-loop-arm : goal.invariant-branches::write_arms-loop-arm
invariant-branches::write_arms-loop-arm l = record {
  more : Extends (compiled l.given.families.now l.fn.out) (compiled l.given.families.now l.out);
  entries : length l.out.lambdas.items + core_arms_count (core_arms_of (drop l.arm-index l.arms))
      ≤ length l.fn.out.lambdas.items + core_arms_count (core_arms_of l.arms);
  arms : AreWritten (compiled l.given.families.now l.out) l.later l.next (take l.arm-index l.arms) l.codes.items;
}
