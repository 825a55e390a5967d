use Rattle.std.proofs.lemmas.Result.{on_ok_weaker}
use Rattle.fst_process.specs.KeptOf.{kept_of}
use Rattle.fst_process.proofs.KeptLaws.{channel_added}
use Rattle.fst_process.proofs.config.Config.push_channel.Goals as goal

pub returns-clause-added : goal.returns-clause-added
returns-clause-added c =
    let k = c.args.self.now in
    on_ok_weaker c.push.result
    (channel_added (kept_of k).tasks k.ready.keys k.channels.by_maker.entries c.push.new.self.by_maker.entries c.args.maker.now
    c.args.channel) c.push.ensures.pushed
