use Rattle.std.proofs.Common.{◌≡◌, ◌+◌, ◌*◌, length, drop, max}
use Rattle.fst_terms.specs.ModelView.{terms_of, arms_of}
use Rattle.fst_terms.specs.SourceAround.{second, around}
use Rattle.fst_terms.specs.TermTree.{TermTree, term_height, terms_height, arms_height}
use Rattle.fst_scopes.specs.First.{first_from}
use Rattle.fst_term_faults.specs.CodeSurroundings.{surroundings_of}
use Rattle.fst_term_faults.specs.TermFaults.{term_faults, terms_faults, cases_faults, matches_faults}
use Rattle.fst_term_faults.proofs.terms.+terms.Given as goal

abbrev pub decreases-note_term : goal.decreases-note_term
decreases-note_term l = 4 * term_height l.term.now + 1

abbrev pub decreases-note_head : goal.decreases-note_head
decreases-note_head l = 4 * term_height l.head.now

abbrev pub decreases-note_step : goal.decreases-note_step
decreases-note_step l = 4 * term_height (second l.step) + 2

abbrev pub decreases-note_two : goal.decreases-note_two
decreases-note_two l = 4 * max (term_height l.first.now) (term_height l.second.now) + 2

abbrev pub decreases-note_under : goal.decreases-note_under
decreases-note_under l = 4 * term_height l.body.now + 2

abbrev pub decreases-note_under_both : goal.decreases-note_under_both
decreases-note_under_both l = 4 * term_height l.body.now + 3

abbrev pub decreases-note_arm : goal.decreases-note_arm
decreases-note_arm l = 4 * term_height l.arm.now.body + 2

abbrev pub decreases-note_terms : goal.decreases-note_terms
decreases-note_terms l = 4 * terms_height (terms_of l.terms.now) + 2

abbrev pub decreases-note_cases : goal.decreases-note_cases
decreases-note_cases l = 4 * arms_height (arms_of l.arms.now) + 3

abbrev pub decreases-note_matches : goal.decreases-note_matches
decreases-note_matches l = 4 * arms_height (arms_of l.arms.now) + 3

abbrev pub decreases-note_term-loop-step : goal.decreases-note_term-loop-step
decreases-note_term-loop-step l = length l.spine.steps.items

abbrev pub invariant-note_term-loop-step : goal.invariant-note_term-loop-step
invariant-note_term-loop-step l =
    (t : TermTree) × (around t l.spine.steps.items ≡ l.term) ×
    (l.least ≡ first_from l.fn.least (term_faults (surroundings_of l.around) l.fn.locals t)) × (l.locals ≡ l.fn.locals)

abbrev pub invariant-note_terms-loop-t : goal.invariant-note_terms-loop-t
invariant-note_terms-loop-t l = record {
  noted : first_from l.least (terms_faults (surroundings_of l.around) l.fn.locals (terms_of (drop l.t-index l.terms)))
      ≡ first_from l.fn.least (terms_faults (surroundings_of l.around) l.fn.locals (terms_of l.terms));
  kept : l.locals ≡ l.fn.locals;
}

abbrev pub invariant-note_cases-loop-arm : goal.invariant-note_cases-loop-arm
invariant-note_cases-loop-arm l = record {
  noted : first_from l.least (cases_faults (surroundings_of l.around) l.fn.locals (arms_of (drop l.arm-index l.arms)))
      ≡ first_from l.fn.least (cases_faults (surroundings_of l.around) l.fn.locals (arms_of l.arms));
  kept : l.locals ≡ l.fn.locals;
}

abbrev pub invariant-note_matches-loop-arm : goal.invariant-note_matches-loop-arm
invariant-note_matches-loop-arm l = record {
  noted : first_from l.least (matches_faults (surroundings_of l.around) l.fn.locals (arms_of (drop l.arm-index l.arms)))
      ≡ first_from l.fn.least (matches_faults (surroundings_of l.around) l.fn.locals (arms_of l.arms));
  kept : l.locals ≡ l.fn.locals;
}
