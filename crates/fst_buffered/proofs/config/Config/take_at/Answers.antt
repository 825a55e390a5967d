use Rattle.std.proofs.Common.{◌∙◌, is_some, sym, ap}
use Rattle.std.specs.Prelude.{option_map}
use Rattle.fst_paths.specs.ChannelLists.{listed, made_in}
use Rattle.fst_buffered.specs.Channels.{further}
use Rattle.fst_buffered.specs.KeptOf.{Held, held_at, kept_of}
use Rattle.fst_buffered.proofs.KeptLaws.{channel_changed, channel_unchanged}
use Rattle.fst_buffered.proofs.config.Config.take_at.Goals as goal

pub advance_among-requires : goal.advance_among-requires
advance_among-requires c = λ j e.
    let was = ap (made_in c.args.self.now.channels.by_maker.entries) (sym c.as_slice.ensures)
    ∙ ap listed (sym c.in-Some.ensures.value) in
    c.requires j.channel (ap (option_map (λ (z : Held). z.channel))
    (ap (λ v. held_at v c.args.end.now.channel.count) was ∙ e))

pub returns-in-Some-clause-taken : goal.returns-in-Some-clause-taken
returns-in-Some-clause-taken c =
    let k = c.args.self.now in
    let there = sym c.in-Some.ensures.value in
    let updates = (c.get_mut.follows.holds c.advance_among.new.channels).3 (ap is_some there) in
    let new = (c.get_mut.follows.lender c.advance_among.new.channels).entries in
    channel_changed (kept_of k).tasks k.ready.keys k.channels.by_maker.entries new c.as_slice.result.now c.in-Some.channels.now
    c.advance_among.new.channels there updates.1 updates.3 c.args.end.now.channel (further c.args.end.now.side)
    c.as_slice.ensures c.advance_among.ensures

pub returns-in_default-clause-taken : goal.returns-in_default-clause-taken
returns-in_default-clause-taken c =
    let k = c.args.self.now in
    channel_unchanged (kept_of k).tasks k.ready.keys k.channels.by_maker.entries c.get_mut.follows.lender-at-none.entries
    c.as_slice.result.now (sym c.in_default.ensures.value) (ap (λ z. z.entries) c.get_mut.follows.holds-at-none)
    c.args.end.now.channel (further c.args.end.now.side) c.as_slice.ensures
