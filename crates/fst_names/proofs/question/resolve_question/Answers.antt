use Rattle.std.proofs.Common.{◌∙◌, sym}
use Rattle.fst_type_syntax.specs.Views.{question_tree}
use Rattle.fst_names.proofs.QuestionLaws.{question_first, question_none, no_twice}
use Rattle.fst_names.proofs.question.resolve_question.Goals as goal

pub returns-in-Some-clause-fault : goal.returns-in-Some-clause-fault
returns-in-Some-clause-fault c =
    let twice = rw c.deref.ensures.value at c.in_ok-vars.ensures.twice in
    λ other. sym (question_first (question_tree c.args.q.now) _ _ twice c.in_ok-note_types.ensures) ∙ c.in-Some.is

pub resolved-requires-clause-faultless : goal.resolved-requires-clause-faultless
resolved-requires-clause-faultless c =
    let twice = rw c.deref.ensures.value at c.in_ok-vars.ensures.twice in
    question_none (question_tree c.args.q.now) _ (question_first
    (question_tree c.args.q.now) _ _ twice c.in_ok-note_types.ensures) c.in_default.is

pub resolved-requires-clause-variables : goal.resolved-requires-clause-variables
resolved-requires-clause-variables c =
    let are = rw c.deref.ensures.value at c.in_ok-vars.ensures.names in
    let twice = rw c.deref.ensures.value at c.in_ok-vars.ensures.twice in
    let none = question_none (question_tree c.args.q.now) _
    (question_first (question_tree c.args.q.now) _ _ twice c.in_ok-note_types.ensures) c.in_default.is in
    are.own (no_twice (question_tree c.args.q.now) none)
