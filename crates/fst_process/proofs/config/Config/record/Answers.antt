use Rattle.std.proofs.Common.{◌∙◌, is_some, sym, ap}
use Rattle.std.specs.Prelude.{option_map}
use Rattle.fst_base.proofs.Options.{none_some}
use Rattle.fst_types.specs.declared.event.Entry.{Entry}
use Rattle.fst_process.specs.Kept.{passed}
use Rattle.fst_paths.specs.ChannelLists.{made_in, listed}
use Rattle.fst_process.specs.KeptOf.{channel_at, channel_of, kept_of}
use Rattle.fst_paths.proofs.Laws.{none_numbered}
use Rattle.fst_process.proofs.KeptLaws.{channel_changed}
use Rattle.fst_process.proofs.config.Config.record.Goals as goal

pub record_among-requires-clause-stamps : goal.record_among-requires-clause-stamps
record_among-requires-clause-stamps c = λ j e.
    let channel = c.args.channel.now in
    let was = ap (made_in c.args.self.now.channels.by_maker.entries) (sym c.as_slice.ensures)
    ∙ ap listed (sym c.in-Some.ensures.value) in
    c.requires.stamps j (ap (λ v. channel_at v channel.count) was ∙ e)

pub returns-in_ok-stamp-in-Some-clause-stamp : goal.returns-in_ok-stamp-in-Some-clause-stamp
returns-in_ok-stamp-in-Some-clause-stamp c = λ j e.
    let channel = c.args.channel.now in
    let was = ap (made_in c.args.self.now.channels.by_maker.entries) (sym c.as_slice.ensures)
    ∙ ap listed (sym c.in-Some.ensures.value) in
    c.in_ok-stamp-in-Some.ensures.stamp j (sym (ap (λ v. channel_at v channel.count) was) ∙ e)

pub returns-in_ok-stamp-in-Some-clause-passed : goal.returns-in_ok-stamp-in-Some-clause-passed
returns-in_ok-stamp-in-Some-clause-passed c =
    let entry : Entry = record {
      event = c.args.event;
      stamp = c.in_ok-stamp-in-Some.stamp;
      sent = c.args.sent;
      got =
          c.args.got;
    } in
    let written = c.get_mut.follows.holds c.record_among.new.channels in
    let there = sym c.in-Some.ensures.value in
    let updates = written.3 (ap is_some there) in
    let new = c.get_mut.follows.lender c.record_among.new.channels in
    channel_changed (kept_of c.args.self.now).tasks c.args.self.now.ready.keys c.args.self.now.channels.by_maker.entries
    new.entries
    c.args.channel.now (passed entry) c.as_slice.result.now
    c.in-Some.channels.now c.record_among.new.channels c.as_slice.ensures there updates.1 updates.3
    c.in_ok-stamp-in-Some.ensures.passed

pub returns-in-None-clause-stamp : goal.returns-in-None-clause-stamp
returns-in-None-clause-stamp c = λ j e.
    let channel = c.args.channel.now in
    let was = ap (made_in c.args.self.now.channels.by_maker.entries) (sym c.as_slice.ensures)
    ∙ ap listed (sym c.in-None.ensures.value) in
    absurd (none_some (sym (ap (option_map channel_of) (none_numbered channel.count))
    ∙ sym (ap (λ v. channel_at v channel.count) was) ∙ e))
