use Rattle.fst_command.specs.Finding.{IsNoQuestion}
use Rattle.fst_command.specs.Output.{AnswersQuestion}
use Rattle.fst_command.proofs.OutputLaws.{asked_output, fault_output}
use Rattle.fst_command.proofs.answer.answer_equiv.Goals as goal

pub returns-in-Ok-clause-text : goal.returns-in-Ok-clause-text
returns-in-Ok-clause-text c =
    asked_output c.args.bytes.now c.args.options.budget c.args.options.proof c.in-Ok.question c.answer_session.result
    c.requires.short c.in-Ok.ensures.question
    c.answer_session.ensures.says

pub returns-in-Err-clause-text : goal.returns-in-Err-clause-text
returns-in-Err-clause-text c =
    fault_output IsNoQuestion (AnswersQuestion c.args.options.budget c.args.options.proof) c.args.bytes.now c.in-Err.fault
    c.answer_fault.result
    c.requires.short
    c.in-Err.ensures.fault c.answer_fault.ensures.says
