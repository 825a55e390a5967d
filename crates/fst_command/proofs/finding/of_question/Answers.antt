use Rattle.fst_type_syntax.specs.Views.{question_tree}
use Rattle.fst_command.specs.Finding.{QuestionFinding}
use Rattle.fst_command.specs.Views.{IfFound, name_fault}
use Rattle.fst_command.proofs.FindingLaws.{of_fault, name_found, left_kind, right_kind}
use Rattle.fst_command.proofs.finding.of_question.Goals as goal

pub returns-in_err-asked-clause-fault : goal.returns-in_err-asked-clause-fault
returns-in_err-asked-clause-fault c =
    let q = question_tree c.args.question.now in
    of_fault c.from_residual.result (name_fault c.in_err-asked.field-0.0)
    (λ f. IfFound f (QuestionFinding q)) c.from_residual.ensures.1
    (name_found q c.in_err-asked.field-0.0 c.in_err-asked.ensures.fault)

pub returns-in_err-session-clause-fault : goal.returns-in_err-session-clause-fault
returns-in_err-session-clause-fault c =
    let q = question_tree c.args.question.now in
    of_fault c.from_residual-in_err-session.result c.in_err-session.field-0.0
    (λ f. IfFound f (QuestionFinding q)) c.from_residual-in_err-session.ensures.1
    (left_kind q c.in_ok-asked.asked c.in_err-session.field-0.0 c.in_ok-asked.ensures.resolved
    (rw c.deref.ensures.value at c.in_err-session.ensures.fault))

pub returns-in_err-session-2-clause-fault : goal.returns-in_err-session-2-clause-fault
returns-in_err-session-2-clause-fault c =
    let q = question_tree c.args.question.now in
    of_fault c.from_residual-in_err-session-2.result c.in_err-session-2.field-0.0
    (λ f. IfFound f (QuestionFinding q)) c.from_residual-in_err-session-2.ensures.1
    (right_kind q c.in_ok-asked.asked c.in_err-session-2.field-0.0 c.in_ok-asked.ensures.resolved
    (rw c.deref.ensures.value at c.in_ok-session.ensures.faultless)
    (rw c.deref-2.ensures.value at c.in_err-session-2.ensures.fault))
