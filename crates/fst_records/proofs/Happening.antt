-- Whatever happens, a record that fits becomes one with one more event.
use Rattle.std.proofs.Common.{◌≡◌, ◌∙◌, suc, ◌+◌, ◌^◌, ◌<◌, true, false, List, [], ◌∷◌, ◌++◌, length, Option, Some, IsSome, sym, ap, subst, arith}
use Rattle.std.specs.Prelude.{is_some, option_and_then}
use Rattle.std.proofs.lemmas.Option.{same_Some}
use Rattle.fst_lts.specs.Histories.{after_history}
use Rattle.fst_types.specs.Tree.{Tree}
use Rattle.fst_types.specs.declared.ends.ChannelName.{ChannelName}
use Rattle.fst_types.specs.declared.ends.EndName.{EndName}
use Rattle.fst_types.specs.declared.event.ChannelHistory.{ChannelHistory}
use Rattle.fst_types.specs.declared.event.Event.{Event}
use Rattle.fst_machine.specs.declared.request.Request.{Request}
use Rattle.fst_machine.specs.declared.request.Request.TheVariants.{Put, Get}
use Rattle.fst_machine.specs.declared.request.Answer.TheVariants.{Sent, Got}
use Rattle.fst_machine.specs.Machine.{Program, request}
use Rattle.fst_runs.specs.declared.event.CoreEvent.{CoreEvent}
use Rattle.fst_runs.specs.declared.event.CoreEvent.TheVariants.{Local, New, Fork, Meet}
use Rattle.fst_runs.specs.Configs.{Path, Task, Channel, Config, same_path, other, channel_name, channel_residual, residual_in, channel_in}
use Rattle.fst_runs.specs.Events.{Write, written, Does, meeting_stamp, extended, has_met, passed}
use Rattle.fst_runs.specs.Notes.{Note, entries_at, notes}
use Rattle.fst_runs.specs.Wrong.{IsRight, IsAllowed}
use Rattle.fst_runs.proofs.Laws.{same_path-apart, same_channel-itself, put, with_task, with_channel, local_puts, new_puts, fork_puts, meet_puts}
use Rattle.fst_lts.specs.Residuals.{sends}
use Rattle.fst_runs.specs.Logs.{Birth}
use Rattle.fst_records.specs.Records.{Course, task_of, log_of, config_of, FitsRecord}
use Rattle.fst_records.specs.Growing.{events_of, IsWithin, AreWithin, IsFine, IsRecordOf}
use Rattle.fst_records.proofs.Extending.{entries_of, entry, noted, ones_tasks, local_extends, new_extends, fork_extends}
use Rattle.fst_records.proofs.Meeting.{side_sends, meet_stamp, put_ones, put_now, meet_extends}
use Rattle.fst_records.proofs.Placing.{IsChannelAt, is_at, is_channel_at, one_swapped, le_swapped}

-- a task that asks to send and one that asks to receive aren't one
not_both_ask : {a : Option Request} (x y : EndName) (ev : Event) → a ≡ Some (Put x ev) → a ≡ Some (Get y) → ⊥
not_both_ask x y ev e f = absurd (cc (sym e ∙ f))

-- an event that the residual allows to send is sent
allowed_sends : (c : Config) (x : EndName) (ev : Event) (k : Channel) → c.channels x.channel ≡ Some k →
    IsAllowed (residual_in c) (Put x ev) → side_sends k ev x.side ≡ true
unfolding sends
allowed_sends c x ev k there r =
    let o : channel_residual x.side k ≡ Some r.0 = sym (ap (option_and_then (channel_residual x.side)) there) ∙ r.2 in
    ap (λ o. sends o ev) o ∙ ap is_some r.3

module _ (m : Program) (types : List Tree) (main : Birth) (ys : List Course) (ks : List ChannelHistory)
    (fits : FitsRecord m types main ys ks) (within : AreWithin (events_of ys ks) ys ks) (few : events_of ys ks < 2 ^ 32) where
  -- the configuration
  abbrev here : Config
  here = config_of ys ks

  -- a record of a configuration, with one more event, whose logs have gained this
  abbrev Next : List Note → Config → Type 0
  Next ns c = IsRecordOf m types main c (suc (events_of ys ks)) (λ p. log_of ys p ++ entries_at p ns)

  happens_local : (p : Path) (w : Write) (d : Does m types here (Local p) w) →
      Next (notes m types here (Local p) w d) (written here w)
  happens_local p w d =
      subst (Next (notes m types here (Local p) w d)) (sym (local_puts m types here p w d))
      (local_extends m types main ys ks fits p d.task d.state (is_at p ys d.task d.asks.0) d.asks.1 d.leads)

  happens_new : (p : Path) (w : Write) (d : Does m types here (New p) w) → IsFine m (written here w) →
      Next (notes m types here (New p) w d) (written here w)
  happens_new p w d fine =
      let is = new_puts m types here p w d in
      let h = channel_name p d.task.made in
      let k : Channel = record { declared = d.declared; history = [] } in
      let f = subst (IsFine m) is fine in
      subst (Next (notes m types here (New p) w d)) (sym is)
      (new_extends m types main ys ks fits p d.task d.state d.number d.declared (is_at p ys d.task d.asks.0) d.asks.1 d.typed
      d.leads (f.sessions h k (ap (λ b. put b k (channel_in ks h)) (same_channel-itself h))))

  happens_fork : (p : Path) (w : Write) (d : Does m types here (Fork p) w) →
      Next (notes m types here (Fork p) w d) (written here w)
  happens_fork p w d =
      subst (Next (notes m types here (Fork p) w d)) (sym (fork_puts m types here p w d))
      (fork_extends m types main ys ks fits p d.task d.state d.begun (is_at p ys d.task d.asks.0) d.asks.1 d.begins d.leads)

  -- clocks are early
  clock_within : (p : Path) (t : Task) → task_of ys p ≡ Some t → t.clock < 2 ^ 63
  clock_within p t e =
      let a = is_at p ys t e in
      let b = (one_swapped (IsWithin (events_of ys ks)) ys (a.with a.course) a.course a.course
      (a.swaps a.course) within.tasks).clock in
      let c = ap (λ (u : Task). u.clock) a.now in
      omega (arith, b, c, few)

  entries_within : (h : ChannelName) (k : Channel) (c : IsChannelAt h ks k) → length c.channel.entries.items + 1 < 2 ^ 63
  entries_within h k c = let a = le_swapped entries_of ks (c.with c.channel) c.channel c.channel (c.swaps c.channel) in
      omega (arith, a, few)

  happens_meet : (p q : Path) (h : ChannelName) (w : Write) (d : Does m types here (Meet p q h) w) →
      IsRight m here →
      IsFine m (written here w) → Next (notes m types here (Meet p q h) w d) (written here w)
  happens_meet p q h w d right fine =
      let t = d.sender in
      let u = d.receiver in
      let x = d.end in
      let ev = d.event in
      let k = d.channel in
      let there : channel_in ks x.channel ≡ Some k = ap (channel_in ks) d.named ∙ d.there in
      let c = is_channel_at x.channel ks k there in
      let a = is_at p ys t d.puts.0 in
      let is = meet_puts m types here p q h w d in
      let apart : same_path p q ≡ false =
      same_path-apart p q
      (λ e. not_both_ask x (other x) ev d.puts.1
      (ap (λ (o : Task). request m.families o.state) (same_Some t u (sym d.puts.0 ∙ ap (task_of ys) e ∙ d.gets.0)) ∙ d.gets.1)) in
      let now = put_now m types main ys ks fits p q t u x ev d.sent d.got k c a d.puts.1 d.sender_leads in
      let n = meet_stamp m types main ys ks fits p q t u x ev d.sent d.got k c in
      let second : task_of (put_ones m types main ys ks fits p q t u x ev d.sent d.got k c a d.puts.1 d.sender_leads) q ≡ Some u =
      ones_tasks m types ys fits.logs p t a (Put x ev) _ n (has_met t d.sent n) now q ∙ ap
      (λ b. put b (has_met t d.sent n) (task_of ys q)) apart ∙ d.gets.0 in
      let asks = right.asks p t d.puts.0 in
      let allowed = subst (IsAllowed (residual_in here)) (same_Some asks.0 (Put x ev) (sym asks.1 ∙ d.puts.1)) asks.2 in
      let sends_it = allowed_sends here x ev k there allowed in
      let after = (subst (IsFine m) is fine).right.traces h (extended k (passed ev t u k))
      (ap (λ b. put b (extended k (passed ev t u k)) (channel_in ks h)) (same_channel-itself h)) in
      let config = λ (g : ChannelName) (j : Channel). with_task
      (with_task (with_channel here g (extended j (passed ev t u j))) p (has_met t d.sent (meeting_stamp t u j))) q
      (has_met u d.got (meeting_stamp t u j)) in
      let gained = λ (j : Channel). noted p (entry (Put x ev) Sent (meeting_stamp t u j)) ++ noted q
      (entry (Get (other x)) (Got ev) (meeting_stamp t u j)) in
      subst (Next (notes m types here (Meet p q h) w d)) (sym is)
      (subst (λ (g : ChannelName). Next (gained k) (config g k)) d.named
      (subst (λ (j : Channel). Next (gained j) (config x.channel j)) c.is
      (meet_extends m types main ys ks fits p q t u x ev d.sent d.got k c a d.puts.1 d.sender_leads
      (is_at q (put_ones m types main ys ks fits p q t u x ev d.sent d.got k c a d.puts.1 d.sender_leads) u second) d.gets.1
      d.receiver_leads
      (ap (λ (j : Channel). side_sends j ev x.side) c.is ∙ sends_it)
      (subst (λ (j : Channel). IsSome (after_history j.declared (j.history ++ passed ev t u j ∷ []))) (sym c.is)
      (ap is_some after.1))
      (clock_within p t d.puts.0) (clock_within q u d.gets.0) (entries_within x.channel k c))))

  -- whatever happens
  pub happens : (e : CoreEvent) (w : Write) → IsRight m here → (d : Does m types here e w) →
      IsFine m (written here w) → Next (notes m types here e w d) (written here w)
  happens (Local p) w right d fine = happens_local p w d
  happens (New p) w right d fine = happens_new p w d fine
  happens (Fork p) w right d fine = happens_fork p w d
  happens (Meet p q h) w right d fine = happens_meet p q h w d right fine
