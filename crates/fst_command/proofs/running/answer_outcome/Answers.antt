use Rattle.std.proofs.Common.{length}
use Rattle.fst_command.proofs.OutcomeLaws.{can_be_written}
use Rattle.fst_command.proofs.running.answer_outcome.Goals as goal

pub shown_as-requires-clause-scoped : goal.shown_as-requires-clause-scoped
shown_as-requires-clause-scoped g c =
    (can_be_written (length c.deref.result.now) c.in-Done.report.channels.items
    (c.in_ok-outcome.ensures.sound c.in-Done.report c.in-Done.is).sessions).0

pub shown_as-requires-clause-named : goal.shown_as-requires-clause-named
shown_as-requires-clause-named g c =
    (can_be_written (length c.deref.result.now) c.in-Done.report.channels.items
    (c.in_ok-outcome.ensures.sound c.in-Done.report c.in-Done.is).sessions).1
