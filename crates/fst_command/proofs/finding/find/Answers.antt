use Rattle.std.proofs.Common.{inl, Ok, Err}
use Rattle.fst_type_syntax.specs.Derives.{AnswersQuestion}
use Rattle.fst_type_syntax.specs.Views.{question_tree}
use Rattle.fst_command.specs.Finding.{IsNoQuestion}
use Rattle.fst_command.proofs.FindingLaws.{lexical_unread, syntax_unread, same_answer, with_question, with_fault}
use Rattle.fst_command.proofs.finding.find.Goals as goal

pub returns-in_err-tokens-clause-fault : goal.returns-in_err-tokens-clause-fault
returns-in_err-tokens-clause-fault c =
    lexical_unread AnswersQuestion (IsNoQuestion c.args.bytes.now) c.args.bytes.now
    (λ f u. inl u) c.in_err-tokens.field-0.0 c.from_residual.result
    c.from_residual.ensures.1 c.in_err-tokens.ensures.fault

pub returns-in_err-question-clause-fault : goal.returns-in_err-question-clause-fault
returns-in_err-question-clause-fault c =
    let e = c.in_err-question.field-0.0 in
    let refused = same_answer AnswersQuestion c.from_utf8_unchecked-text.result.now c.args.bytes.now c.deref.result.now
    c.in_ok-tokens.tokens.items (Err e)
    c.from_utf8_unchecked-text.ensures c.deref.ensures.value c.in_err-question.ensures in
    syntax_unread AnswersQuestion (IsNoQuestion c.args.bytes.now) c.args.bytes.now
    (λ f u. inl u) c.in_ok-tokens.tokens.items e c.from_residual-in_err-question.result
    c.from_residual-in_err-question.ensures.1 c.in_ok-tokens.ensures.tokens refused

pub returns-clause-question : goal.returns-clause-question
returns-clause-question c =
    let q = question_tree c.in_ok-question.question in
    let derived = same_answer AnswersQuestion c.from_utf8_unchecked-text.result.now c.args.bytes.now c.deref.result.now
    c.in_ok-tokens.tokens.items (Ok q)
    c.from_utf8_unchecked-text.ensures c.deref.ensures.value c.in_ok-question.ensures in
    with_question c.args.bytes.now q c.of_question.result
    (record { tokens = c.in_ok-tokens.tokens.items; lexes = c.in_ok-tokens.ensures.tokens; reads = derived })
    c.of_question.ensures.asks

pub returns-clause-fault : goal.returns-clause-fault
returns-clause-fault c =
    let q = question_tree c.in_ok-question.question in
    let derived = same_answer AnswersQuestion c.from_utf8_unchecked-text.result.now c.args.bytes.now c.deref.result.now
    c.in_ok-tokens.tokens.items (Ok q)
    c.from_utf8_unchecked-text.ensures c.deref.ensures.value c.in_ok-question.ensures in
    with_fault c.args.bytes.now q c.of_question.result
    (record { tokens = c.in_ok-tokens.tokens.items; lexes = c.in_ok-tokens.ensures.tokens; reads = derived })
    c.of_question.ensures.fault
