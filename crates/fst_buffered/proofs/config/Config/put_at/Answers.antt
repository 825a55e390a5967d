use Rattle.std.proofs.Common.{◌∙◌, is_some, sym, ap}
use Rattle.std.specs.Prelude.{option_map}
use Rattle.std.proofs.lemmas.Result.{on_ok_weaker}
use Rattle.fst_paths.specs.ChannelLists.{listed, made_in}
use Rattle.fst_buffered.specs.Channels.{after_put}
use Rattle.fst_buffered.specs.KeptOf.{Held, held_at, kept_of}
use Rattle.fst_buffered.proofs.KeptLaws.{channel_changed, channel_unchanged}
use Rattle.fst_buffered.proofs.config.Config.put_at.Goals as goal

pub put_among-requires : goal.put_among-requires
put_among-requires c = λ j e.
    let was = ap (made_in c.args.self.now.channels.by_maker.entries) (sym c.as_slice.ensures)
    ∙ ap listed (sym c.in-Some.ensures.value) in
    c.requires j.channel (ap (option_map (λ (z : Held). z.channel))
    (ap (λ v. held_at v c.args.end.now.channel.count) was ∙ e))

pub returns-in-Some-clause-put : goal.returns-in-Some-clause-put
returns-in-Some-clause-put c =
    let k = c.args.self.now in
    let there = sym c.in-Some.ensures.value in
    let updates = (c.get_mut.follows.holds c.put_among.new.channels).3 (ap is_some there) in
    let new = (c.get_mut.follows.lender c.put_among.new.channels).entries in
    on_ok_weaker c.put_among.result
    (channel_changed (kept_of k).tasks k.ready.keys k.channels.by_maker.entries new c.as_slice.result.now c.in-Some.channels.now
    c.put_among.new.channels there updates.1 updates.3 c.args.end.now.channel (after_put c.args.end.now.side c.args.event)
    c.as_slice.ensures) c.put_among.ensures

pub returns-in-None-clause-put : goal.returns-in-None-clause-put
returns-in-None-clause-put c =
    let k = c.args.self.now in
    channel_unchanged (kept_of k).tasks k.ready.keys k.channels.by_maker.entries c.get_mut.follows.lender-at-none.entries
    c.as_slice.result.now (sym c.in-None.ensures.value) (ap (λ z. z.entries) c.get_mut.follows.holds-at-none)
    c.args.end.now.channel (after_put c.args.end.now.side c.args.event) c.as_slice.ensures
