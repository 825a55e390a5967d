use Rattle.std.proofs.Common.{◌∙◌, sym, rules, Ok, IfOk}
use Rattle.fst_equiv.specs.Comparison.{comparisons, AreYes, IsComparison}
use Rattle.fst_equiv.specs.declared.comparing.Same.{Same}
use Rattle.fst_equiv.proofs.ComparisonLaws.{comes_in_front, differing_alone, found_behind, too_large_found_behind}
use Rattle.fst_equiv.proofs.EqualParts.{part_session}
use Rattle.fst_equiv.proofs.EqualTypes.{found_equal}
use Rattle.fst_equiv.proofs.comparing.+same_type.Goals as goal

pub same_parts-returns-in-Yes-clause-answer : goal.same_parts-returns-in-Yes-clause-answer
same_parts-returns-in-Yes-clause-answer t c =
    let xs = comparisons c.args.left_first.now c.args.right_first.now in
    let ys = comparisons c.args.left_second.now c.args.right_second.now in
    let h : AreYes c.args.budget xs = rw c.in-Yes.is at c.in_ok-other.ensures.answer in
    found_behind c.args.budget xs ys c.same_type-in-Yes.result h c.same_type-in-Yes.ensures.answer

pub same_parts-returns-in-Yes-clause-too_large : goal.same_parts-returns-in-Yes-clause-too_large
same_parts-returns-in-Yes-clause-too_large t c =
    let xs = comparisons c.args.left_first.now c.args.right_first.now in
    let ys = comparisons c.args.left_second.now c.args.right_second.now in
    let h : AreYes c.args.budget xs = rw c.in-Yes.is at c.in_ok-other.ensures.answer in
    too_large_found_behind c.args.budget xs ys c.same_type-in-Yes.result h c.same_type-in-Yes.ensures.too_large

pub same_parts-returns-in_default : goal.same_parts-returns-in_default
same_parts-returns-in_default t c =
    let xs = comparisons c.args.left_first.now c.args.right_first.now in
    let ys = comparisons c.args.left_second.now c.args.right_second.now in
    record {
      answer = comes_in_front c.args.budget xs ys c.in_ok-other.other c.in_default.not-Yes c.in_ok-other.ensures.answer;
      too_large = tt;
    }

pub same_type-same_part-requires-clause-session_left : goal.same_type-same_part-requires-clause-session_left
same_type-same_part-requires-clause-session_left t c =
    let f = c.requires.formed in
    part_session f.0 c.args.t.now f.1 (sym c.is_part.ensures ∙ c.if-is_part.true) f.3

pub same_type-same_part-requires-clause-session_right : goal.same_type-same_part-requires-clause-session_right
same_type-same_part-requires-clause-session_right t c =
    let f = c.requires.formed in
    part_session f.0 c.args.u.now f.2 (sym c.is_part-then-is_part.ensures ∙ c.if-is_part-2.true) f.4

pub same_type-returns-then-is_part-2-clause-equal : goal.same_type-returns-then-is_part-2-clause-equal
same_type-returns-then-is_part-2-clause-equal t c =
    let h : IfOk c.same_part.result (λ (a : Same). IsComparison c.args.t.now c.args.u.now c.args.budget a) = search rules in
    found_equal c.args.t.now c.args.u.now c.args.budget c.same_part.result h

pub same_type-returns-in-Plain-Plain-clause-answer : goal.same_type-returns-in-Plain-Plain-clause-answer
same_type-returns-in-Plain-Plain-clause-answer t c =
    let left = rw c.in-Plain-Plain.is-0 at c.t.view_is in
    let right = rw c.in-Plain-Plain.is-1 at c.u.view_is in
    rw (← left, ← right) (rw c.same_base.ensures at c.unless_same.ensures c.args.budget)

pub same_type-returns-in-Plain-Plain-clause-equal : goal.same_type-returns-in-Plain-Plain-clause-equal
same_type-returns-in-Plain-Plain-clause-equal t c =
    found_equal c.args.t.now c.args.u.now c.args.budget (Ok c.unless_same.result)
    (same_type-returns-in-Plain-Plain-clause-answer t c)

pub same_type-returns-then-same_use-clause-answer : goal.same_type-returns-then-same_use-clause-answer
same_type-returns-then-same_use-clause-answer t c =
    let left = rw c.in-Arrow-Arrow.is-0 at c.t.view_is in
    let right = rw c.in-Arrow-Arrow.is-1 at c.u.view_is in
    rw (← left, ← right, sym c.same_use.ensures ∙ c.if-same_use.true) (rw
    (c.deref.ensures, c.deref-then-same_use.ensures, c.deref-then-same_use-2.ensures, c.deref-then-same_use-3.ensures) at
    c.same_parts.ensures.answer)

pub same_type-returns-then-same_use-clause-equal : goal.same_type-returns-then-same_use-clause-equal
same_type-returns-then-same_use-clause-equal t c =
    found_equal c.args.t.now c.args.u.now c.args.budget c.same_parts.result (same_type-returns-then-same_use-clause-answer t c)

pub same_type-returns-else-same_use-clause-answer : goal.same_type-returns-else-same_use-clause-answer
same_type-returns-else-same_use-clause-answer t c =
    differing_alone c.args.budget c.args.t.now c.args.u.now (search rules)

pub same_type-returns-in-Pair-Pair-clause-answer : goal.same_type-returns-in-Pair-Pair-clause-answer
same_type-returns-in-Pair-Pair-clause-answer t c =
    let left = rw c.in-Pair-Pair.is-0 at c.t.view_is in
    let right = rw c.in-Pair-Pair.is-1 at c.u.view_is in
    rw (← left, ← right) (rw
    (c.deref-in-Pair-Pair.ensures, c.deref-in-Pair-Pair-2.ensures, c.deref-in-Pair-Pair-3.ensures, c.deref-in-Pair-Pair-4.ensures)
    at c.same_parts-in-Pair-Pair.ensures.answer)

pub same_type-returns-in-Pair-Pair-clause-equal : goal.same_type-returns-in-Pair-Pair-clause-equal
same_type-returns-in-Pair-Pair-clause-equal t c =
    found_equal c.args.t.now c.args.u.now c.args.budget c.same_parts-in-Pair-Pair.result
    (same_type-returns-in-Pair-Pair-clause-answer t c)

pub same_type-returns-in-Named-Named-clause-answer : goal.same_type-returns-in-Named-Named-clause-answer
same_type-returns-in-Named-Named-clause-answer t c =
    let left = rw c.in-Named-Named.is-0 at c.t.view_is in
    let right = rw c.in-Named-Named.is-1 at c.u.view_is in
    rw (← left, ← right) (c.unless_same-in-Named-Named.ensures c.args.budget)

pub same_type-returns-in-Named-Named-clause-equal : goal.same_type-returns-in-Named-Named-clause-equal
same_type-returns-in-Named-Named-clause-equal t c =
    found_equal c.args.t.now c.args.u.now c.args.budget (Ok c.unless_same-in-Named-Named.result)
    (same_type-returns-in-Named-Named-clause-answer t c)

pub same_type-returns-in_default-clause-answer : goal.same_type-returns-in_default-clause-answer
same_type-returns-in_default-clause-answer t c =
    differing_alone c.args.budget c.args.t.now c.args.u.now (search rules)
