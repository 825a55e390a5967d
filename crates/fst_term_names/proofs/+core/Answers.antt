use Rattle.std.proofs.Common.{◌≡◌, ◌∙◌, ◌∷◌, ◌++◌, [], ap, arith, length, subst, sym}
use Rattle.fst_terms.specs.ModelView.{arms_of, terms_of}
use Rattle.fst_terms.specs.SourceAround.{second, wrap}
use Rattle.fst_terms.specs.TermTree.{arms_height, term_height}
use Rattle.fst_terms.specs.declared.term.SourceArm.{SourceArm}
use Rattle.fst_scopes.specs.Faults.{type_faults}
use Rattle.fst_scopes.proofs.Laws.{none_named}
use Rattle.fst_term_faults.specs.TermFaults.{cases_faults, maker_faults, matches_faults, term_faults, terms_faults, terms_length, within}
use Rattle.fst_term_faults.proofs.Laws.{arms_height_at, terms_height_at}
use Rattle.fst_term_faults.proofs.Laws.{length_of}
use Rattle.fst_term_names.specs.CodeMeanings.{AreAdded, numbers_in, scope_in}
use Rattle.fst_term_names.specs.CoreTerms.{core_term}
use Rattle.fst_term_names.specs.TermTypes.{written_in}
use Rattle.fst_term_names.proofs.AddedLaws.{are_added, both_added}
use Rattle.fst_term_names.proofs.MadeLaws.{one_made}
use Rattle.fst_term_names.proofs.PartLaws.{all_arms, all_arms_added, all_terms, all_terms_added, arm_as, arm_none, arm_types, as_arm, inner_none, itself, no_cases, second_none, term_none, wrap_types}
use Rattle.fst_term_names.proofs.+core.Goals as goal

-- ---- two terms

pub core_parts::core_two-core_part-requires : goal.core_parts::core_two-core_part-requires
core_parts::core_two-core_part-requires t c =
    let s = scope_in c.args.meanings.now in
    let xs = c.args.locals.now in (
      omega (arith, c.decreases),
      (none_named (term_faults s xs c.args.first.now)
          (term_faults s xs c.args.second.now) c.requires).0,
    )

pub core_parts::core_two-core_part-requires-2 : goal.core_parts::core_two-core_part-requires-2
core_parts::core_two-core_part-requires-2 t c =
    let s = scope_in c.args.meanings.now in
    let xs = c.args.locals.now in (
      omega (arith, c.decreases),
      subst (λ ys. term_faults s ys c.args.second.now ≡ []) (sym c.in_ok-first.ensures.kept)
          ((none_named (term_faults s xs c.args.first.now) (term_faults s xs c.args.second.now) c.requires).1),
    )

-- ---- some terms

pub core_parts::core_terms-core_term-requires : goal.core_parts::core_terms-core_term-requires
core_parts::core_terms-core_term-requires t c =
    let s = scope_in c.args.meanings.now in
    let high = terms_height_at c.args.terms.now c.loop-t.t-index c.t-item.result (omega arith) in
    let same = ap term_height c.t-item.is in (
      omega (arith, high, same, c.decreases),
      subst (λ ys. term_faults s ys c.t-item.result ≡ []) (sym c.loop-t.invariant.kept)
          (term_none s c.args.locals.now c.args.terms.now c.loop-t.t-index c.t-item.result c.requires (omega arith) c.t-item.is),
    )

pub core_parts::core_terms-loop-t-preserved : goal.core_parts::core_terms-loop-t-preserved
core_parts::core_terms-loop-t-preserved t c =
    let s = scope_in c.args.meanings.now in
    let become = core_term (numbers_in c.args.meanings.now) in
    let xs = c.args.locals.now in
    let u = c.t-item.result in
    let kept = c.loop-t.invariant.kept in
    record {
      made = one_made itself (become xs) written_in s c.args.terms.now c.loop-t.t-index c.args.types.now c.loop-t.types
          c.core_term.new.types c.loop-t.made.items c.push.new.self.items
          u c.in_ok-core_term.field-0 c.loop-t.invariant.made (omega arith) c.t-item.is
          (c.in_ok-core_term.ensures.term ∙ ap (λ ys. become ys (length c.loop-t.types.types.items) u) kept)
          (are_added s (written_in u) c.loop-t.types c.core_term.new.types c.in_ok-core_term.ensures.types
          c.in_ok-core_term.ensures.places) c.in_ok-push.ensures.items;
      kept = c.in_ok-core_term.ensures.kept ∙ kept;
    }

pub core_parts::core_terms-returns-clause-terms : goal.core_parts::core_terms-returns-clause-terms
core_parts::core_terms-returns-clause-terms t c =
    all_terms (numbers_in c.args.meanings.now) (scope_in c.args.meanings.now) c.args.locals.now c.args.terms.now c.loop-t.t-index
    c.args.types.now c.loop-t.types c.loop-t.made.items c.loop-t.invariant.made (omega arith)

pub core_parts::core_terms-returns-clause-added : goal.core_parts::core_terms-returns-clause-added
core_parts::core_terms-returns-clause-added t c =
    all_terms_added (numbers_in c.args.meanings.now)
    (scope_in c.args.meanings.now) c.args.locals.now c.args.terms.now c.loop-t.t-index c.args.types.now c.loop-t.types
    c.loop-t.made.items c.loop-t.invariant.made (omega arith)

-- ---- some arms

pub core_parts::core_arms-core_arm-requires : goal.core_parts::core_arms-core_arm-requires
core_parts::core_arms-core_arm-requires t c =
    let s = scope_in c.args.meanings.now in
    let b = c.arm-item.result in
    let high = arms_height_at c.args.arms.now c.loop-arm.arm-index b (omega arith) in
    let same = ap (λ (a : SourceArm). term_height a.body) c.arm-item.is in (
      omega (arith, high, same, c.decreases),
      subst (λ ys. term_faults s (within b.binders.items ys) b.body ≡ []) (sym c.loop-arm.invariant.kept)
          (arm_none s c.args.locals.now c.args.arms.now c.loop-arm.arm-index b c.requires (omega arith) c.arm-item.is),
    )

pub core_parts::core_arms-loop-arm-preserved : goal.core_parts::core_arms-loop-arm-preserved
core_parts::core_arms-loop-arm-preserved t c =
    let s = scope_in c.args.meanings.now in
    let ns = numbers_in c.args.meanings.now in
    let b = c.arm-item.result in
    let kept = c.loop-arm.invariant.kept in
    let body = c.in_ok-core_arm.ensures.body ∙ ap
    (λ ys. core_term ns (within b.binders.items ys) (length c.loop-arm.types.types.items) b.body) kept in
    record {
      made = one_made as_arm (arm_as ns c.args.locals.now) arm_types s c.args.arms.now c.loop-arm.arm-index c.args.types.now
          c.loop-arm.types c.core_arm.new.types
          c.loop-arm.made.items c.push.new.self.items b c.in_ok-core_arm.field-0 c.loop-arm.invariant.made
          (omega arith) c.arm-item.is
          (λ i. record { label = c.in_ok-core_arm.ensures.label i; binders = c.in_ok-core_arm.ensures.binders i; body = body i })
          c.in_ok-core_arm.ensures.added c.in_ok-push.ensures.items;
      kept = c.in_ok-core_arm.ensures.kept ∙ kept;
    }

pub core_parts::core_arms-returns-clause-arms : goal.core_parts::core_arms-returns-clause-arms
core_parts::core_arms-returns-clause-arms t c =
    all_arms (numbers_in c.args.meanings.now) (scope_in c.args.meanings.now) c.args.locals.now c.args.arms.now
    c.loop-arm.arm-index c.args.types.now c.loop-arm.types c.loop-arm.made.items c.loop-arm.invariant.made (omega arith)

pub core_parts::core_arms-returns-clause-added : goal.core_parts::core_arms-returns-clause-added
core_parts::core_arms-returns-clause-added t c =
    all_arms_added (numbers_in c.args.meanings.now)
    (scope_in c.args.meanings.now) c.args.locals.now c.args.arms.now c.loop-arm.arm-index c.args.types.now c.loop-arm.types
    c.loop-arm.made.items c.loop-arm.invariant.made (omega arith)

-- ---- a term that is no operation and no application

pub core_terms::core_head-maker_term-requires : goal.core_terms::core_head-maker_term-requires
core_terms::core_head-maker_term-requires t c =
    let s = scope_in c.args.meanings.now in
    let x = c.in-Make.name in
    let us = c.in-Make.arguments.items in
    let whole = rw c.in-Make.is at c.head.view_is in
    let none = none_named (maker_faults c.head.inside.at x (terms_length (terms_of us)) (s.makers x))
    (terms_faults s c.args.locals.now (terms_of us)) (ap (term_faults s c.args.locals.now) whole ∙ c.requires.faultless) in
    let long : c.len.result ≡ terms_length (terms_of us) = omega (arith, c.len.ensures, c.in-Make.arguments.ok.0, length_of us) in
    ap (λ n. maker_faults c.head.inside.at x n (s.makers x)) long ∙ none.0

pub core_terms::core_head-add_open_type-requires : goal.core_terms::core_head-add_open_type-requires
core_terms::core_head-add_open_type-requires t c =
    let s = scope_in c.args.meanings.now in
    let xs = c.args.locals.now in
    let whole = rw c.in-Lambda.is at c.head.view_is in
    (none_named (type_faults s.types c.in-Lambda.from) (term_faults s (c.in-Lambda.binder.name ∷ xs) c.in-Lambda.body.value)
    (ap (term_faults s xs) whole ∙ c.requires.faultless)).0

pub core_terms::core_head-core_under-requires : goal.core_terms::core_head-core_under-requires
core_terms::core_head-core_under-requires t c =
    let s = scope_in c.args.meanings.now in
    let xs = c.args.locals.now in
    let ys = c.in-Lambda.binder.name ∷ xs in
    let whole = rw c.in-Lambda.is at c.head.view_is in
    let none = none_named (type_faults s.types c.in-Lambda.from) (term_faults s ys c.in-Lambda.body.value)
    (ap (term_faults s xs) whole ∙ c.requires.faultless) in (
      omega (arith, ap term_height whole, ap term_height c.deref-in-Lambda.ensures, c.decreases),
      ap (term_faults s ys) c.deref-in-Lambda.ensures ∙ none.1,
    )

pub core_terms::core_head-core_part-requires : goal.core_terms::core_head-core_part-requires
core_terms::core_head-core_part-requires t c =
    let s = scope_in c.args.meanings.now in
    let xs = c.args.locals.now in
    let whole = rw c.in-Let.is at c.head.view_is in
    let none = none_named (term_faults s xs c.in-Let.value.value) (term_faults s (c.in-Let.binder.name ∷ xs) c.in-Let.body.value)
    (ap (term_faults s xs) whole ∙ c.requires.faultless) in (
      omega (arith, ap term_height whole, ap term_height c.deref-in-Let.ensures, c.decreases),
      ap (term_faults s xs) c.deref-in-Let.ensures ∙ none.0,
    )

pub core_terms::core_head-core_under-requires-in-Let : goal.core_terms::core_head-core_under-requires-in-Let
core_terms::core_head-core_under-requires-in-Let t c =
    let s = scope_in c.args.meanings.now in
    let xs = c.args.locals.now in
    let whole = rw c.in-Let.is at c.head.view_is in
    let none = none_named (term_faults s xs c.in-Let.value.value) (term_faults s (c.in-Let.binder.name ∷ xs) c.in-Let.body.value)
    (ap (term_faults s xs) whole ∙ c.requires.faultless) in (
      omega (arith, ap term_height whole, ap term_height c.deref-in-Let-2.ensures, c.decreases),
      (λ i. term_faults s (c.in-Let.binder.name ∷ c.in_ok-value-in-Let.ensures.kept i) (c.deref-in-Let-2.ensures i)) ∙ none.1,
    )

pub core_terms::core_head-core_part-requires-in-Split : goal.core_terms::core_head-core_part-requires-in-Split
core_terms::core_head-core_part-requires-in-Split t c =
    let s = scope_in c.args.meanings.now in
    let xs = c.args.locals.now in
    let whole = rw c.in-Split.is at c.head.view_is in
    let none = none_named (term_faults s xs c.in-Split.value.value)
    (term_faults s (c.in-Split.second.name ∷ c.in-Split.first.name ∷ xs) c.in-Split.body.value)
    (ap (term_faults s xs) whole ∙ c.requires.faultless) in (
      omega (arith, ap term_height whole, ap term_height c.deref-in-Split.ensures, c.decreases),
      ap (term_faults s xs) c.deref-in-Split.ensures ∙ none.0,
    )

pub core_terms::core_head-core_under_both-requires : goal.core_terms::core_head-core_under_both-requires
core_terms::core_head-core_under_both-requires t c =
    let s = scope_in c.args.meanings.now in
    let xs = c.args.locals.now in
    let whole = rw c.in-Split.is at c.head.view_is in
    let none = none_named (term_faults s xs c.in-Split.value.value)
    (term_faults s (c.in-Split.second.name ∷ c.in-Split.first.name ∷ xs) c.in-Split.body.value)
    (ap (term_faults s xs) whole ∙ c.requires.faultless) in (
      omega (arith, ap term_height whole, ap term_height c.deref-in-Split-2.ensures, c.decreases),
      (λ i. term_faults s (c.in-Split.second.name ∷ c.in-Split.first.name ∷ c.in_ok-value-in-Split.ensures.kept i)
          (c.deref-in-Split-2.ensures i)) ∙ none.1,
    )

pub core_terms::core_head-core_part-requires-in-If : goal.core_terms::core_head-core_part-requires-in-If
core_terms::core_head-core_part-requires-in-If t c =
    let s = scope_in c.args.meanings.now in
    let xs = c.args.locals.now in
    let whole = rw c.in-If.is at c.head.view_is in
    let none = none_named (term_faults s xs c.in-If.test.value)
    (term_faults s xs c.in-If.yes.value ++ term_faults s xs c.in-If.no.value)
    (ap (term_faults s xs) whole ∙ c.requires.faultless) in (
      omega (arith, ap term_height whole, ap term_height c.deref-in-If.ensures, c.decreases),
      ap (term_faults s xs) c.deref-in-If.ensures ∙ none.0,
    )

pub core_terms::core_head-core_two-requires-in-If : goal.core_terms::core_head-core_two-requires-in-If
core_terms::core_head-core_two-requires-in-If t c =
    let s = scope_in c.args.meanings.now in
    let xs = c.args.locals.now in
    let whole = rw c.in-If.is at c.head.view_is in
    let none = none_named (term_faults s xs c.in-If.test.value)
    (term_faults s xs c.in-If.yes.value ++ term_faults s xs c.in-If.no.value)
    (ap (term_faults s xs) whole ∙ c.requires.faultless) in (
      omega (
        arith,
        ap term_height whole,
        ap term_height c.deref-in-If-2.ensures,
        ap term_height c.deref-in-If-3.ensures,
        c.decreases,
      ),
      (λ i. term_faults s (c.in_ok-test-in-If.ensures.kept i) (c.deref-in-If-2.ensures i) ++ term_faults s
          (c.in_ok-test-in-If.ensures.kept i) (c.deref-in-If-3.ensures i)) ∙ none.1,
    )

pub core_terms::core_head-core_part-requires-in-Case : goal.core_terms::core_head-core_part-requires-in-Case
core_terms::core_head-core_part-requires-in-Case t c =
    let s = scope_in c.args.meanings.now in
    let xs = c.args.locals.now in
    let whole = rw c.in-Case.is at c.head.view_is in
    let none = none_named (term_faults s xs c.in-Case.value.value) (cases_faults s xs (arms_of c.in-Case.arms.items))
    (ap (term_faults s xs) whole ∙ c.requires.faultless) in (
      omega (arith, ap term_height whole, ap term_height c.deref-in-Case.ensures, c.decreases),
      ap (term_faults s xs) c.deref-in-Case.ensures ∙ none.0,
    )

pub core_terms::core_head-core_arms-requires : goal.core_terms::core_head-core_arms-requires
core_terms::core_head-core_arms-requires t c =
    let s = scope_in c.args.meanings.now in
    let xs = c.args.locals.now in
    let whole = rw c.in-Case.is at c.head.view_is in
    let none = none_named (term_faults s xs c.in-Case.value.value) (cases_faults s xs (arms_of c.in-Case.arms.items))
    (ap (term_faults s xs) whole ∙ c.requires.faultless) in (
      omega (arith, ap term_height whole, ap (λ bs. arms_height (arms_of bs)) c.deref-in-Case-2.ensures.value, c.decreases),
      (λ i. matches_faults s (c.in_ok-value-in-Case.ensures.kept i) (arms_of (c.deref-in-Case-2.ensures.value i)))
          ∙ no_cases s xs (arms_of c.in-Case.arms.items) none.1,
    )

pub core_terms::core_head-core_part-requires-in-Match : goal.core_terms::core_head-core_part-requires-in-Match
core_terms::core_head-core_part-requires-in-Match t c =
    let s = scope_in c.args.meanings.now in
    let xs = c.args.locals.now in
    let whole = rw c.in-Match.is at c.head.view_is in
    let none = none_named (term_faults s xs c.in-Match.channel.value) (matches_faults s xs (arms_of c.in-Match.arms.items))
    (ap (term_faults s xs) whole ∙ c.requires.faultless) in (
      omega (arith, ap term_height whole, ap term_height c.deref-in-Match.ensures, c.decreases),
      ap (term_faults s xs) c.deref-in-Match.ensures ∙ none.0,
    )

pub core_terms::core_head-core_arms-requires-in-Match : goal.core_terms::core_head-core_arms-requires-in-Match
core_terms::core_head-core_arms-requires-in-Match t c =
    let s = scope_in c.args.meanings.now in
    let xs = c.args.locals.now in
    let whole = rw c.in-Match.is at c.head.view_is in
    let none = none_named (term_faults s xs c.in-Match.channel.value) (matches_faults s xs (arms_of c.in-Match.arms.items))
    (ap (term_faults s xs) whole ∙ c.requires.faultless) in (
      omega (arith, ap term_height whole, ap (λ bs. arms_height (arms_of bs)) c.deref-in-Match-2.ensures.value, c.decreases),
      (λ i. matches_faults s (c.in_ok-channel-in-Match.ensures.kept i) (arms_of (c.deref-in-Match-2.ensures.value i))) ∙ none.1,
    )

-- ---- a term

pub core_terms::core_term-core_head-requires : goal.core_terms::core_term-core_head-requires
core_terms::core_term-core_head-requires t c =
    let s = scope_in c.args.meanings.now in
    let xs = c.args.locals.now in
    let spine = c.in_ok-spine.spine in (
      omega (arith, c.in_ok-spine.ensures.low, c.decreases),
      (
        c.in_ok-spine.ensures.head,
        inner_none s xs spine.steps.items spine.head.now
            (ap (term_faults s xs) c.in_ok-spine.ensures.whole ∙ c.requires.faultless),
      ),
    )

pub core_terms::core_term-core_step-requires : goal.core_terms::core_term-core_step-requires
core_terms::core_term-core_step-requires t c =
    let s = scope_in c.args.meanings.now in
    let xs = c.args.locals.now in
    let x = c.in-Some.step in
    let inner = c.loop-step.invariant.0 in
    let whole = sym (c.in-Some.ensures.whole inner) ∙ c.loop-step.invariant.1 in (
      omega (arith, c.in-Some.ensures.low inner, ap term_height c.loop-step.invariant.1, c.decreases),
      ap (λ ys. term_faults s ys (second x)) c.loop-step.invariant.4
          ∙ second_none s xs c.pop_source_step.new.steps.items x inner (ap (term_faults s xs) whole ∙ c.requires.faultless),
    )

pub core_terms::core_term-loop-step-preserved : goal.core_terms::core_term-loop-step-preserved
core_terms::core_term-loop-step-preserved t c =
    let s = scope_in c.args.meanings.now in
    let become = core_term (numbers_in c.args.meanings.now) in
    let n = length c.args.types.now.types.items in
    let x = c.in-Some.step in
    let inner = c.loop-step.invariant.0 in
    let kept = c.loop-step.invariant.4 in
    let made = c.loop-step.invariant.2 ∙ ap (λ ys. become ys n inner) (sym kept) in (
      wrap x inner,
      sym (c.in-Some.ensures.whole inner) ∙ c.loop-step.invariant.1,
      c.in_ok-made-2.ensures.term n inner made c.loop-step.invariant.3.count ∙ ap (λ ys. become ys n (wrap x inner)) kept,
      subst (λ us. AreAdded s us c.args.types.now c.core_step.new.types) (sym (wrap_types x inner))
          (both_added s (written_in inner) (written_in (second x)) c.args.types.now c.loop-step.types c.core_step.new.types
          c.loop-step.invariant.3 c.in_ok-made-2.ensures.added),
      c.in_ok-made-2.ensures.kept ∙ kept,
    )
