use Rattle.std.proofs.Common.{◌∙◌, None, refl, sym}
use Rattle.fst_buffered.specs.declared.kept.Channel as rust_channel
use Rattle.fst_buffered.specs.Kept.{added}
use Rattle.fst_buffered.specs.KeptOf.{kept_of}
use Rattle.fst_buffered.proofs.KeptLaws.{channel_added}
use Rattle.fst_buffered.proofs.config.Config.add_channel.Goals as goal

pub returns-clause-opened : goal.returns-clause-opened
returns-clause-opened c =
    let k = c.args.self.now in
    let channel : rust_channel.Channel = record {
      declared = c.args.declared;
      entries = c.new-entries.result;
      left = 0;
      right = 0;
      left_asker = None;
      right_asker = None;
    } in
    channel_added (kept_of k).tasks k.ready.keys k.channels.by_maker.entries c.push.new.self.by_maker.entries c.args.maker.now
    channel refl refl c.in_ok-count.ensures.pushed
    ∙ (λ i.
    added (record { maker = sym c.in_ok-copy.ensures i; count = sym c.in_ok-count.ensures.count i })
    (record { declared = c.args.declared; history = c.new-entries.ensures.items i; left = 0; right = 0 }) (kept_of k))
