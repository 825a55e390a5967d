-- What passes between two tasks that meet in a record's last event is the last entry of one history.
use Rattle.std.proofs.Common.{◌≡◌, ◌∙◌, ℕ, ◌+◌, List, [], ◌∷◌, ◌++◌, true, false, sym, ap, arith}
use Rattle.std.specs.Prelude.{sum_by}
use Rattle.fst_types.specs.Tree.{Tree}
use Rattle.fst_types.specs.declared.side.Side.{Side}
use Rattle.fst_types.specs.declared.side.Side.TheVariants.{Left, Right}
use Rattle.fst_types.specs.declared.ends.ChannelName.{ChannelName}
use Rattle.fst_types.specs.declared.ends.EndName.{EndName}
use Rattle.fst_types.specs.declared.event.ChannelHistory.{ChannelHistory}
use Rattle.fst_types.specs.declared.event.Entry.{Entry}
use Rattle.fst_lts.specs.Histories.{opposite}
use Rattle.fst_lts.specs.Residuals.{residual, sends}
use Rattle.fst_machine.specs.Machine.{Program}
use Rattle.fst_runs.specs.Configs.{Path, other}
use Rattle.fst_runs.specs.Logs.{Birth, Exchange, exchanged_by, part_in}
use Rattle.fst_records.specs.Records.{Course, trades, FitsRecord}
use Rattle.fst_records.specs.Entries.{StandsIn, part_at}
use Rattle.fst_records.proofs.Channels.{one_channel}
use Rattle.fst_records.proofs.Codes.{just, just_itself, exchange_code}
use Rattle.fst_records.proofs.Entries.{corresponds, stands}
use Rattle.fst_records.proofs.Exchanges.{PartSays, part_at_says}
use Rattle.fst_records.proofs.Histories.{history_last, either_side, other_side}
use Rattle.fst_records.proofs.Lists.{IsAmong, among}
use Rattle.fst_records.proofs.LogEntries.{AreBy}
use Rattle.fst_records.proofs.MetTasks.{MetTasks}
use Rattle.fst_records.proofs.Tests.{snoc_same}

-- the last entry of the history of the channel over which these tasks meet
pub record MetEntry (m : Program) (types : List Tree) (ys : List Course) (ks : List ChannelHistory) (p q : Path)
    (h : ChannelName) (n : ℕ) (t : MetTasks m types ys p q h n) : Type 0 where
  pub channel : ChannelHistory
  pub place : IsAmong ks channel
  pub name : channel.name ≡ h
  pub before : List Entry
  pub entry : Entry
  pub items : channel.entries.items ≡ before ++ entry ∷ []
  -- it has the event, the stamp, and the clocks of both, who are at the two ends
  pub event : t.sends.event ≡ entry.event
  pub got_event : t.gets.event ≡ entry.event
  pub stamp : entry.stamp ≡ n
  pub sent : t.sender.last.before.clock ≡ entry.sent
  pub got : t.receiver.last.before.clock ≡ entry.got
  pub ends : t.gets.end ≡ other t.sends.end
  -- what the logs exchange is what they do without the two entries, and the parts of both sides in it
  pub trades : (w : Exchange → ℕ) → sum_by (trades w) ys ≡
      sum_by (trades w) t.rest.courses + (w (part_at channel Left before entry) + w (part_at channel Right before entry))

module _ (m : Program) (types : List Tree) (main : Birth) (ys : List Course) (ks : List ChannelHistory)
    (fits : FitsRecord m types main ys ks) (p q : Path) (h : ChannelName) (n : ℕ) (by : AreBy n ys)
    (t : MetTasks m types ys p q h n) where
  -- what the one sent, and the other got
  abbrev sent_it : Exchange
  sent_it = record {
    end = t.sends.end;
    sends = true;
    event = t.sends.event;
    stamp = t.sender.entry.stamp;
    clock = t.sender.last.before.clock;
  }

  abbrev got_it : Exchange
  got_it = record {
    end = t.gets.end;
    sends = false;
    event = t.gets.event;
    stamp = t.receiver.entry.stamp;
    clock = t.receiver.last.before.clock;
  }

  both_trades : (w : Exchange → ℕ) → sum_by (trades w) ys ≡ sum_by (trades w) t.rest.courses + (w sent_it + w got_it)
  both_trades w =
      let a = t.others.trades w in
      let b = t.rest.trades w in
      let e = t.sender.entry in
      let g = t.receiver.entry in
      let c : sum_by w (exchanged_by t.sender.last.before.clock e.stamp e.asked e.answer) ≡ sum_by w (sent_it ∷ []) =
      (λ i. sum_by w (exchanged_by t.sender.last.before.clock e.stamp (t.sends.asked i) (t.sends.answer i))) in
      let d : sum_by w (exchanged_by t.receiver.last.before.clock g.stamp g.asked g.answer) ≡ sum_by w (got_it ∷ []) =
      (λ i. sum_by w (exchanged_by t.receiver.last.before.clock g.stamp (t.gets.asked i) (t.gets.answer i))) in
      omega (arith, a, b, c, d)

  at_sent : StandsIn ks sent_it
  at_sent = stands m types main ys ks fits sent_it
      (let a = both_trades (just exchange_code sent_it) in let b = just_itself exchange_code sent_it in omega (arith, a, b))

  at_got : StandsIn ks got_it
  at_got = stands m types main ys ks fits got_it
      (let a = both_trades (just exchange_code got_it) in let b = just_itself exchange_code got_it in omega (arith, a, b))

  -- where something with the stamp n stands is the end of a history
  ends_with : (g : Exchange) (s : StandsIn ks g) → g.stamp ≡ n → s.channel.entries.items ≡ s.before ++ s.entry ∷ []
  ends_with g s e = s.is ∙ ap (λ (l : List Entry). s.before ++ s.entry ∷ l)
      (history_last m types main ys ks fits n by s.channel s.there s.before s.entry s.behind s.is
      (let a = (part_at_says s.channel s.side s.before s.entry g s.part).stamp in omega (arith, a, e)))

  -- the history in which it stands, on which side, behind which entries, and the entry
  abbrev j : ChannelHistory
  j = at_sent.channel

  abbrev side : Side
  side = at_sent.side

  abbrev before : List Entry
  before = at_sent.before

  abbrev d : Entry
  d = at_sent.entry

  sent_says : PartSays j side before d sent_it
  sent_says = part_at_says j side before d sent_it at_sent.part

  name_is : j.name ≡ h
  name_is = sym (ap (λ (x : EndName). x.channel) sent_says.end) ∙ t.sends.channel

  channel_same : j ≡ at_got.channel
  channel_same =
      let says = part_at_says at_got.channel at_got.side at_got.before at_got.entry got_it at_got.part in
      one_channel ((corresponds m types main ys ks fits).names j.name) (among ks j at_sent.there)
      (among ks at_got.channel at_got.there)
      (name_is ∙ sym t.gets.channel ∙ ap (λ (x : EndName). x.channel) says.end)

  items : j.entries.items ≡ before ++ d ∷ []
  items = ends_with sent_it at_sent t.sender.stamp

  entry_same : (before ≡ at_got.before) × (d ≡ at_got.entry)
  entry_same = snoc_same before at_got.before d at_got.entry
      (sym items ∙ ap (λ (k : ChannelHistory). k.entries.items) channel_same ∙ ends_with got_it at_got t.receiver.stamp)

  got_part_is : got_it ≡ part_at j at_got.side before d
  got_part_is = at_got.part ∙ (λ i. part_at (sym channel_same i) at_got.side (sym entry_same.0 i) (sym entry_same.1 i))

  got_says : PartSays j at_got.side before d got_it
  got_says = part_at_says j at_got.side before d got_it got_part_is

  side_is : at_got.side ≡ opposite side
  side_is = other_side (λ s. sends (residual s j.declared before) d.event) side at_got.side (sym sent_says.sends_is)
      (sym got_says.sends_is)

  -- the entry that the two exchanged
  pub met_entry : MetEntry m types ys ks p q h n t
  met_entry = record {
    channel = j;
    place = among ks j at_sent.there;
    name = name_is;
    before = before;
    entry = d;
    items = items;
    event = sent_says.event;
    got_event = got_says.event;
    stamp = sym sent_says.stamp ∙ t.sender.stamp;
    sent = ap (λ (g : Exchange). g.clock) at_sent.part
        ∙ ap (λ b. (part_in (record { channel = j.name; side = side }) b d).clock) (sym sent_says.sends_is);
    got = ap (λ (g : Exchange). g.clock) got_part_is
        ∙ ap (λ b. (part_in (record { channel = j.name; side = at_got.side }) b d).clock) (sym got_says.sends_is);
    ends = got_says.end ∙ (λ i. record {
      channel = sym (ap (λ (x : EndName). x.channel) sent_says.end) i;
      side = (side_is ∙ sym (ap (λ (x : EndName). opposite x.side) sent_says.end)) i;
    });
    trades = λ w.
        let f = λ (s : Side). w (part_at j s before d) in
        let a = both_trades w in
        let b = either_side f side in
        let c = ap w at_sent.part in
        let e = ap w got_part_is in
        let g = ap f side_is in
        omega (arith, a, b, c, e, g);
  }
