use Rattle.fst_command.specs.Audited.{IsNoAudit, AuditsCertificate}
use Rattle.fst_command.proofs.AuditLaws.{audit_output}
use Rattle.fst_command.proofs.OutputLaws.{fault_output}
use Rattle.fst_command.proofs.auditing.answer_audit.Goals as goal

pub returns-in-Ok-clause-text : goal.returns-in-Ok-clause-text
returns-in-Ok-clause-text c =
    audit_output c.args.bytes.now c.in-Ok.question c.answer_lines.result c.requires c.in-Ok.ensures.is_text
    c.in-Ok.ensures.question
    c.answer_lines.ensures.says

pub returns-in-Err-clause-text : goal.returns-in-Err-clause-text
returns-in-Err-clause-text c =
    fault_output IsNoAudit AuditsCertificate c.args.bytes.now c.in-Err.fault c.answer_fault.result c.requires
    c.in-Err.ensures.fault
    c.answer_fault.ensures.says
