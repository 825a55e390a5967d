use Rattle.std.proofs.Common.{◌≡◌, ◌∙◌, ◌+◌, ◌-◌, ◌<◌, suc, max, Some, sym, ap, subst, arith}
use Rattle.std.specs.Prelude.{option_map, slice_set}
use Rattle.fst_base.proofs.Options.{some_same}
use Rattle.fst_lts.specs.Histories.{last_stamp}
use Rattle.fst_types.specs.declared.event.Entry.{Entry}
use Rattle.fst_process.specs.Kept.{Channel, passed}
use Rattle.fst_paths.specs.ChannelLists.{IsChangedAt}
use Rattle.fst_process.specs.KeptOf.{channel_at, channel_of}
use Rattle.fst_paths.proofs.Laws.{numbered_there, set_changed}
use Rattle.fst_process.proofs.Stepping.{one_more}
use Rattle.fst_process.proofs.kept.record_among.Goals as goal

pub overflow_add-stamp : goal.overflow_add-stamp
overflow_add-stamp c =
    let js = c.args.channels.now.items in
    let x = c.index_mut-channel.result.now in
    let one : suc (c.args.number - 1) ≡ c.args.number = omega arith in
    let there = subst (λ n. channel_at js n ≡ Some (channel_of x)) one
    (ap (option_map channel_of) (numbered_there js (c.args.number - 1) x (omega arith) c.index_mut-channel.ensures.value)) in
    let few : last_stamp x.entries.items < 4294967296 = c.requires.stamps (channel_of x) there in
    let is : c.last_stamp.result ≡ last_stamp x.entries.items = c.last_stamp.ensures ∙ ap last_stamp c.deref.ensures.value in
    omega (arith, few, is, c.max.ensures, c.max-stamp.ensures)

pub returns-clause-stamp : goal.returns-clause-stamp
returns-clause-stamp c = λ j e.
    let js = c.args.channels.now.items in
    let x = c.index_mut-channel.result.now in
    let one : suc (c.args.number - 1) ≡ c.args.number = omega arith in
    let there = subst (λ n. channel_at js n ≡ Some (channel_of x)) one
    (ap (option_map channel_of) (numbered_there js (c.args.number - 1) x (omega arith) c.index_mut-channel.ensures.value)) in
    let same : channel_of x ≡ j = some_same (sym there ∙ e) in
    let is = c.last_stamp.ensures ∙ ap last_stamp c.deref.ensures.value ∙ ap (λ (z : Channel). last_stamp z.history) same in
    one_more c.max-stamp.result _ (c.max-stamp.ensures ∙ (λ i. max (c.max.ensures i) (is i)))

pub returns-clause-passed : goal.returns-clause-passed
returns-clause-passed c =
    let js = c.args.channels.now.items in
    let x = c.index_mut-channel.result.now in
    let one : suc (c.args.number - 1) ≡ c.args.number = omega arith in
    let entry : Entry = record { event = c.args.event; stamp = c.max-stamp.result + 1; sent = c.args.sent; got = c.args.got } in
    subst (λ n. IsChangedAt channel_of n (passed entry) js (slice_set js (c.args.number - 1) c.pass.new.channel)) one
    (set_changed channel_of js (c.args.number - 1) (passed entry) x c.pass.new.channel
    (omega arith) c.index_mut-channel.ensures.value c.in_ok-pass.ensures)
