use Rattle.std.proofs.Common.{◌≡◌, ◌+◌, ◌*◌, length, max}
use Rattle.fst_terms.specs.ModelView.{terms_of, arms_of}
use Rattle.fst_terms.specs.SourceAround.{second, around}
use Rattle.fst_terms.specs.TermTree.{TermTree, term_height, terms_height, arms_height}
use Rattle.fst_term_names.specs.CodeMeanings.{AreAdded, numbers_in, scope_in}
use Rattle.fst_term_names.specs.CoreTerms.{core_term}
use Rattle.fst_term_names.specs.TermTypes.{written_in}
use Rattle.fst_term_names.proofs.MadeLaws.{AreMade}
use Rattle.fst_term_names.proofs.PartLaws.{as_arm, arm_as, arm_types, itself}
use Rattle.fst_term_names.proofs.+core.Given as goal

abbrev pub decreases-core_terms::core_term : goal.decreases-core_terms::core_term
decreases-core_terms::core_term l = 5 * term_height l.term.now + 1

abbrev pub decreases-core_parts::core_part : goal.decreases-core_parts::core_part
decreases-core_parts::core_part l = 5 * term_height l.term.now + 2

abbrev pub decreases-core_terms::core_head : goal.decreases-core_terms::core_head
decreases-core_terms::core_head l = 5 * term_height l.head.now

abbrev pub decreases-core_terms::core_step : goal.decreases-core_terms::core_step
decreases-core_terms::core_step l = 5 * term_height (second l.step) + 3

abbrev pub decreases-core_parts::core_two : goal.decreases-core_parts::core_two
decreases-core_parts::core_two l = 5 * max (term_height l.first.now) (term_height l.second.now) + 3

abbrev pub decreases-core_parts::core_under : goal.decreases-core_parts::core_under
decreases-core_parts::core_under l = 5 * term_height l.body.now + 3

abbrev pub decreases-core_parts::core_under_both : goal.decreases-core_parts::core_under_both
decreases-core_parts::core_under_both l = 5 * term_height l.body.now + 4

abbrev pub decreases-core_parts::core_arm : goal.decreases-core_parts::core_arm
decreases-core_parts::core_arm l = 5 * term_height l.arm.now.body + 2

abbrev pub decreases-core_parts::core_terms : goal.decreases-core_parts::core_terms
decreases-core_parts::core_terms l = 5 * terms_height (terms_of l.terms.now) + 2

abbrev pub decreases-core_parts::core_arms : goal.decreases-core_parts::core_arms
decreases-core_parts::core_arms l = 5 * arms_height (arms_of l.arms.now) + 3

abbrev pub decreases-core_terms::core_term-loop-step : goal.decreases-core_terms::core_term-loop-step
decreases-core_terms::core_term-loop-step l = length l.spine.steps.items

abbrev pub invariant-core_terms::core_term-loop-step : goal.invariant-core_terms::core_term-loop-step
invariant-core_terms::core_term-loop-step l =
    (t : TermTree) × (around t l.spine.steps.items ≡ l.term) ×
    (l.made ≡ core_term (numbers_in l.meanings) l.fn.locals (length l.fn.types.types.items) t) ×
    AreAdded (scope_in l.meanings) (written_in t) l.fn.types l.types × (l.locals ≡ l.fn.locals)

abbrev pub invariant-core_parts::core_terms-loop-t : goal.invariant-core_parts::core_terms-loop-t
invariant-core_parts::core_terms-loop-t l = record {
  made : AreMade itself (core_term (numbers_in l.meanings) l.fn.locals) written_in
      (scope_in l.meanings) l.terms l.t-index l.fn.types l.types l.made.items;
  kept : l.locals ≡ l.fn.locals;
}

abbrev pub invariant-core_parts::core_arms-loop-arm : goal.invariant-core_parts::core_arms-loop-arm
invariant-core_parts::core_arms-loop-arm l = record {
  made : AreMade as_arm (arm_as (numbers_in l.meanings) l.fn.locals) arm_types
      (scope_in l.meanings) l.arms l.arm-index l.fn.types l.types l.made.items;
  kept : l.locals ≡ l.fn.locals;
}
