use Rattle.std.proofs.Common.{◌≡◌, ◌∙◌, ◌-◌, suc, Some, ap, subst, arith}
use Rattle.std.specs.Prelude.{slice_set}
use Rattle.fst_process.specs.Kept.{with_asker}
use Rattle.fst_paths.specs.ChannelLists.{IsChangedAt}
use Rattle.fst_process.specs.KeptOf.{channel_of}
use Rattle.fst_paths.proofs.Laws.{set_changed}
use Rattle.fst_process.proofs.kept.ask_among.Goals as goal

pub returns-clause-asked : goal.returns-clause-asked
returns-clause-asked c =
    let end = c.args.end.now in
    let js = c.args.channels.now.items in
    let x = c.index_mut-channel.result.now in
    let asked = with_asker end.side (Some c.args.path.now) in
    let one : suc (end.channel.count - 1) ≡ end.channel.count = omega arith in
    let same = c.set_asker.ensures ∙ ap (λ p. with_asker end.side (Some p) (channel_of x)) c.in_ok-own.ensures in
    subst (λ n. IsChangedAt channel_of n asked js (slice_set js (end.channel.count - 1) c.set_asker.new.channel)) one
    (set_changed channel_of js (end.channel.count - 1) asked x c.set_asker.new.channel
    (omega arith) c.index_mut-channel.ensures.value same)
