use Rattle.std.proofs.Common.{◌∙◌, sym}
use Rattle.fst_command.proofs.FindingLaws.{session_refused, session_wrong}
use Rattle.fst_command.proofs.finding.session.Goals as goal

pub returns-in-Err-clause-fault : goal.returns-in-Err-clause-fault
returns-in-Err-clause-fault c =
    session_refused c.args.kinds.now c.args.t.now c.args.at c.in-Err.fault c.kind_fault.result c.kind_fault.ensures
    c.in-Err.ensures.walk

pub returns-else-subkind-clause-fault : goal.returns-else-subkind-clause-fault
returns-else-subkind-clause-fault c =
    session_wrong c.args.kinds.now c.args.t.now c.args.at c.in-Ok.kind c.kind_fault-else-subkind.result
    c.kind_fault-else-subkind.ensures
    c.in-Ok.ensures.walk (sym c.subkind.ensures ∙ c.if-subkind.false)
