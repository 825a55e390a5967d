use Rattle.fst_terms.specs.ModuleView.{declarations}
use Rattle.fst_command.specs.Finding.{AreUnresolved}
use Rattle.fst_command.specs.Views.{IfFound, name_fault}
use Rattle.fst_command.proofs.FindingLaws.{of_fault}
use Rattle.fst_command.proofs.CheckLaws.{names_found, resolved_by, unread_found}
use Rattle.fst_command.proofs.checks.find_resolved.Goals as goal

pub returns-in_err-source-clause-fault : goal.returns-in_err-source-clause-fault
returns-in_err-source-clause-fault c =
    let bytes = c.args.bytes.now in
    of_fault c.from_residual.result c.in_err-source.field-0.0 (λ f. IfFound f (AreUnresolved bytes)) c.from_residual.ensures.1
    (unread_found bytes c.in_err-source.field-0.0 c.in_err-source.ensures.fault)

pub returns-in_err-resolve-clause-fault : goal.returns-in_err-resolve-clause-fault
returns-in_err-resolve-clause-fault c =
    let bytes = c.args.bytes.now in
    let e = c.in_err-resolve.field-0.0 in
    of_fault c.from_residual-in_err-resolve.result (name_fault e)
    (λ f. IfFound f (AreUnresolved bytes)) c.from_residual-in_err-resolve.ensures.1
    (names_found bytes (declarations c.in_ok-source.source) e c.in_ok-source.ensures.module c.in_err-resolve.ensures.fault)

pub returns-clause-module : goal.returns-clause-module
returns-clause-module c =
    resolved_by c.args.bytes.now (declarations c.in_ok-source.source) c.in_ok-resolve.field-0 c.in_ok-source.ensures.module
    c.in_ok-resolve.ensures.resolved
