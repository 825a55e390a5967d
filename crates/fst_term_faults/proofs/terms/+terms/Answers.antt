use Rattle.std.proofs.Common.{◌≡◌, ◌∙◌, ◌++◌, length, refl, sym, append_assoc, arith}
use Rattle.fst_terms.specs.ModelView.{terms_of, arms_of}
use Rattle.fst_terms.specs.declared.term.SourceArm.{SourceArm}
use Rattle.fst_term_faults.specs.CodeSurroundings.{surroundings_of}
use Rattle.fst_term_faults.specs.TermFaults.{cases_faults, maker_faults, matches_faults, term_faults, terms_faults, within}
use Rattle.fst_term_faults.proofs.NotedLaws.{both_noted, next_noted}
use Rattle.fst_term_faults.proofs.terms.+terms.Goals as goal

pub note_terms-loop-t-preserved : goal.note_terms-loop-t-preserved
note_terms-loop-t-preserved t c =
    let s = surroundings_of c.args.around.now in
    let xs = c.args.locals.now in
    let noted = rw c.loop-t.invariant.kept at c.in_ok-note_term.ensures.noted in
    record {
      noted = next_noted (term_faults s xs) (λ ts. terms_faults s xs (terms_of ts))
          (λ t ts. refl) c.args.terms.now c.loop-t.t-index c.t-item.result c.loop-t.least c.note_term.new.least
          (omega arith) c.t-item.is noted ∙ c.loop-t.invariant.noted;
      kept = c.in_ok-note_term.ensures.kept ∙ c.loop-t.invariant.kept;
    }

pub note_matches-loop-arm-preserved : goal.note_matches-loop-arm-preserved
note_matches-loop-arm-preserved t c =
    let s = surroundings_of c.args.around.now in
    let xs = c.args.locals.now in
    let noted = rw c.loop-arm.invariant.kept at c.in_ok-note_arm.ensures.noted in
    record {
      noted = next_noted (λ (a : SourceArm). term_faults s (within a.binders.items xs) a.body)
          (λ bs. matches_faults s xs (arms_of bs)) (λ b bs. refl) c.args.arms.now c.loop-arm.arm-index c.arm-item.result
          c.loop-arm.least c.note_arm.new.least (omega arith) c.arm-item.is noted ∙ c.loop-arm.invariant.noted;
      kept = c.in_ok-note_arm.ensures.kept ∙ c.loop-arm.invariant.kept;
    }

pub note_cases-loop-arm-preserved : goal.note_cases-loop-arm-preserved
note_cases-loop-arm-preserved t c =
    let s = surroundings_of c.args.around.now in
    let xs = c.args.locals.now in
    let arm = c.arm-item.result in
    let long : c.len.result ≡ length arm.binders.items = omega (arith, c.len.ensures, arm.binders.ok.0) in
    let maker = rw long at c.in_ok-note_maker.ensures in
    let noted = both_noted (maker_faults arm.label.at arm.label.name (length arm.binders.items) (s.makers arm.label.name))
    (term_faults s (within arm.binders.items xs) arm.body) c.loop-arm.least c.note_maker.new.least c.note_arm.new.least maker
    (rw c.loop-arm.invariant.kept at c.in_ok-note_arm.ensures.noted) in
    record {
      noted = next_noted (λ (a : SourceArm). maker_faults a.label.at a.label.name (length a.binders.items)
          (s.makers a.label.name) ++ term_faults s (within a.binders.items xs) a.body) (λ bs. cases_faults s xs (arms_of bs))
          (λ b bs. sym (append_assoc (maker_faults b.label.at b.label.name (length b.binders.items) (s.makers b.label.name))
          (term_faults s (within b.binders.items xs) b.body) (cases_faults s xs (arms_of bs)))) c.args.arms.now
          c.loop-arm.arm-index arm c.loop-arm.least c.note_arm.new.least (omega arith) c.arm-item.is noted
          ∙ c.loop-arm.invariant.noted;
      kept = c.in_ok-note_arm.ensures.kept ∙ c.loop-arm.invariant.kept;
    }
