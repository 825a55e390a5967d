use Rattle.fst_command.proofs.run.answer_command.Goals as goal

pub returns-in-Equiv-clause-text : goal.returns-in-Equiv-clause-text
returns-in-Equiv-clause-text g c = rw c.in-Equiv.is c.answer_equiv.ensures.text

pub returns-in-Show-clause-text : goal.returns-in-Show-clause-text
returns-in-Show-clause-text g c = rw c.in-Show.is c.answer_show.ensures.text

pub returns-in-Check-clause-text : goal.returns-in-Check-clause-text
returns-in-Check-clause-text g c = rw c.in-Check.is c.answer_check.ensures.text

pub returns-in-Run-clause-text : goal.returns-in-Run-clause-text
returns-in-Run-clause-text g c = rw c.in-Run.is c.answer_run.ensures.text

pub returns-in-Buffered-clause-text : goal.returns-in-Buffered-clause-text
returns-in-Buffered-clause-text g c = rw c.in-Buffered.is c.answer_buffered.ensures.text

pub returns-in-Audit-clause-text : goal.returns-in-Audit-clause-text
returns-in-Audit-clause-text g c = rw c.in-Audit.is c.answer_audit.ensures.text
