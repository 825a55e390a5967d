use Rattle.std.proofs.Common.{length, sym, subst}
use Rattle.fst_buffered.specs.Answers.{IsSoundOutcome}
use Rattle.fst_report.specs.BufferedTexts.{AreWithin}
use Rattle.fst_command.proofs.BufferedLaws.{unread_within}
use Rattle.fst_command.proofs.OutcomeLaws.{can_be_written}
use Rattle.fst_command.proofs.buffering.answer_outcome.Goals as goal

pub buffered_text-requires-clause-scoped : goal.buffered_text-requires-clause-scoped
buffered_text-requires-clause-scoped c =
    (can_be_written (length c.deref-in-Done-2.result.now) c.in-Done.report.channels.items
    (subst (IsSoundOutcome c.args.m.now) c.in-Done.is c.in_ok-outcome.ensures.sound).sessions).0

pub buffered_text-requires-clause-named : goal.buffered_text-requires-clause-named
buffered_text-requires-clause-named c =
    (can_be_written (length c.deref-in-Done-2.result.now) c.in-Done.report.channels.items
    (subst (IsSoundOutcome c.args.m.now) c.in-Done.is c.in_ok-outcome.ensures.sound).sessions).1

pub buffered_text-requires-clause-within : goal.buffered_text-requires-clause-within
buffered_text-requires-clause-within c =
    subst (AreWithin c.in-Done.report.channels.items) (sym c.deref-in-Done.ensures.value)
    (unread_within c.args.options.capacity c.args.options.steps c.args.m.now c.in_ok-outcome.outcome c.in-Done.report
    c.in-Done.unread c.in_ok-outcome.ensures.is c.in-Done.is)
