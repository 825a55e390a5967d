use Rattle.std.proofs.Common.{Some, None, is_some, sym, ap}
use Rattle.fst_process.specs.Kept.{with_asker}
use Rattle.fst_process.proofs.KeptLaws.{channel_changed, channel_unchanged}
use Rattle.fst_process.proofs.notes.ask.Goals as goal

pub returns-in_ok-partner-in-Some-clause-asked : goal.returns-in_ok-partner-in-Some-clause-asked
returns-in_ok-partner-in-Some-clause-asked c = λ ks.
    let end = c.args.end.now in
    let written = c.get_mut.follows.holds c.ask_among.new.channels in
    let there = sym c.in-Some.ensures.value in
    let updates = written.3 (ap is_some there) in
    let new = c.get_mut.follows.lender c.ask_among.new.channels in
    channel_changed (λ p. None) ks c.args.channels.now.by_maker.entries new.entries end.channel
    (with_asker end.side (Some c.args.path.now)) c.as_slice.result.now
    c.in-Some.channels.now c.ask_among.new.channels c.as_slice.ensures there updates.1 updates.3
    c.in_ok-partner-in-Some.ensures.asked

pub returns-in-None-clause-asked : goal.returns-in-None-clause-asked
returns-in-None-clause-asked c = λ ks.
    let end = c.args.end.now in
    channel_unchanged (λ p. None) ks c.args.channels.now.by_maker.entries c.get_mut.follows.lender-at-none.entries end.channel
    (with_asker end.side (Some c.args.path.now)) c.as_slice.result.now
    c.as_slice.ensures (sym c.in-None.ensures.value) (ap (λ z. z.entries) c.get_mut.follows.holds-at-none)
