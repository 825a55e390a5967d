-- A record whose last event is that two tasks meet.
use Rattle.std.proofs.Common.{◌≡◌, ◌∙◌, ◌≤◌, ℕ, ◌+◌, List, [], ◌∷◌, ◌++◌, Some, refl, sym, ap, subst, arith}
use Rattle.std.specs.Prelude.{sum_by}
use Rattle.fst_types.specs.Tree.{Tree}
use Rattle.fst_types.specs.declared.side.Side.TheVariants.{Left, Right}
use Rattle.fst_types.specs.declared.ends.ChannelName.{ChannelName}
use Rattle.fst_types.specs.declared.event.ChannelHistory.{ChannelHistory}
use Rattle.fst_types.specs.declared.event.Entry.{Entry}
use Rattle.fst_types.specs.declared.event.Event.{Event}
use Rattle.fst_lts.specs.Histories.{over}
use Rattle.fst_lts.specs.Stamps.{AreStamped}
use Rattle.fst_lts.proofs.Laws.{stamped_last}
use Rattle.fst_machine.specs.declared.request.Request.TheVariants.{Get}
use Rattle.fst_machine.specs.declared.request.Answer.TheVariants.{Sent, Got}
use Rattle.fst_machine.specs.Machine.{Program, State, answered}
use Rattle.fst_runs.specs.declared.event.CoreEvent.TheVariants.{Meet}
use Rattle.fst_runs.specs.declared.log.LogEntry.{LogEntry}
use Rattle.fst_runs.specs.Configs.{Path, Task, Channel, same_path, same_channel, channel_in}
use Rattle.fst_runs.specs.Events.{Write, Does, has_met, passed, task_at, channel_at, meeting_stamp, extended}
use Rattle.fst_runs.specs.Logs.{Birth, Opening, born_by, opened_by}
use Rattle.fst_runs.specs.StampedRuns.{IsStamp}
use Rattle.fst_runs.proofs.Laws.{same_path-same, same_path-apart, same_channel-itself, put, meet_puts, write_stamp}
use Rattle.fst_records.specs.Records.{Course, FitsRecord, IsRecorded, shows, task_of, config_of}
use Rattle.fst_records.specs.Entries.{part_at}
use Rattle.fst_records.proofs.Channels.{channel_put}
use Rattle.fst_records.proofs.Entries.{corresponds}
use Rattle.fst_records.proofs.Found.{on_name, channel_of}
use Rattle.fst_records.proofs.Histories.{shorter_history, recorded_shorter, shows_shorter}
use Rattle.fst_records.proofs.LogEntries.{AreBy}
use Rattle.fst_records.proofs.Lasts.{Last, now_after, answer_leads, put_twice, put_behind}
use Rattle.fst_records.proofs.Lists.{in_place, swapped, without, sum_with, all_one, all_with}
use Rattle.fst_records.proofs.MetTasks.{sent_part, got_part, MetTasks, met_tasks}
use Rattle.fst_records.proofs.MetEntry.{MetEntry, met_entry}
use Rattle.fst_records.proofs.Paths.{paths_once}
use Rattle.fst_records.proofs.Undoing.{Lessens, lessened, HasPart, Undone, last_part}

module _ (m : Program) (types : List Tree) (main : Birth) (ys : List Course) (ks : List ChannelHistory)
    (fits : FitsRecord m types main ys ks) (p q : Path) (h : ChannelName) (n : ℕ) (tasks : MetTasks m types ys p q h n)
    (met : MetEntry m types ys ks p q h n tasks) where
  -- the task that sends, with its last entry and as it was before
  abbrev y : Course
  y = tasks.sender.course

  abbrev e : LogEntry
  e = tasks.sender.entry

  abbrev l : Last m y e
  l = tasks.sender.last

  abbrev t : Task
  t = l.before

  -- the one that gets
  abbrev z : Course
  z = tasks.receiver.course

  abbrev g : LogEntry
  g = tasks.receiver.entry

  abbrev k : Last m z g
  k = tasks.receiver.last

  abbrev u : Task
  u = k.before

  -- the courses without the two entries
  abbrev zs : List Course
  zs = tasks.rest.courses

  -- the channel, and the channel without the entry
  abbrev j : ChannelHistory
  j = met.channel

  abbrev cut : ChannelHistory
  cut = shorter_history j met.before met.entry met.items

  abbrev js : List ChannelHistory
  js = swapped met.place cut

  recorded : IsRecorded j
  recorded = all_one IsRecorded met.place fits.histories

  less : Lessens m types ys ks zs js
  less = record {
    born = λ w. 0;
    opened = λ w. 0;
    passed = λ w. w (part_at j Left met.before met.entry) + w (part_at j Right met.before met.entry);
    births = λ w. let a = tasks.others.births w in let b = tasks.rest.births w in omega (arith, a, b);
    bears = λ w.
        let a = tasks.others.bears w in
        let b = tasks.rest.bears w in
        let c = ap (λ a. sum_by w (born_by m y.path t e.stamp a)) tasks.sends.answer in
        let f = ap (λ a. sum_by w (born_by m z.path u g.stamp a)) tasks.gets.answer in
        omega (arith, a, b, c, f);
    logs = tasks.rest.logs;
    channels = λ w. let a = sum_with (λ (k : ChannelHistory). w k.name k.declared) met.place cut in omega (arith, a);
    opens = λ w.
        let a = tasks.others.opens w in
        let b = tasks.rest.opens w in
        let c : sum_by (λ (o : Opening). w o.name o.declared) (opened_by types e.asked e.answer) ≡ 0 =
        (λ i. sum_by (λ (o : Opening). w o.name o.declared) (opened_by types (tasks.sends.asked i) (tasks.sends.answer i))) in
        let f : sum_by (λ (o : Opening). w o.name o.declared) (opened_by types g.asked g.answer) ≡ 0 =
        (λ i. sum_by (λ (o : Opening). w o.name o.declared) (opened_by types (tasks.gets.asked i) (tasks.gets.answer i))) in
        omega (arith, a, b, c, f);
    shows = λ w.
        let a = sum_with (shows w) met.place cut in
        let b = shows_shorter w j met.before met.entry met.items in
        omega (arith, a, b);
    trades = met.trades;
    histories = all_with IsRecorded met.place cut fits.histories (recorded_shorter j met.before met.entry met.items recorded);
  }

  -- ---- the event

  -- the channel then, what passes, and the stamp
  abbrev was : Channel
  was = channel_of cut

  abbrev ev : Event
  ev = tasks.sends.event

  abbrev stamp : ℕ
  stamp = meeting_stamp t u was

  entry_stamp : met.entry.stamp ≡ stamp
  entry_stamp =
      let a = stamped_last met.before met.entry (subst (AreStamped 0) met.items recorded.stamped) in
      let b = met.sent in
      let c = met.got in
      omega (arith, a, b, c)

  has_stamp : n ≡ stamp
  has_stamp = sym met.stamp ∙ entry_stamp

  -- the states after it
  abbrev s : State
  s = l.enters.state

  abbrev v : State
  v = k.enters.state

  got_leads : answered m u.state (Got ev) ≡ Some v
  got_leads = ap (λ ev. answered m u.state (Got ev)) (met.event ∙ sym met.got_event)
      ∙ answer_leads k (Got tasks.gets.event) tasks.gets.answer

  y_now : y.now ≡ has_met t s stamp
  y_now = now_after l Sent stamp tasks.sends.answer (tasks.sender.stamp ∙ has_stamp)

  z_now : z.now ≡ has_met u v stamp
  z_now = now_after k (Got tasks.gets.event) stamp tasks.gets.answer (tasks.receiver.stamp ∙ has_stamp)

  at_y : task_of zs y.path ≡ Some t
  at_y = sym (tasks.rest.tasks y.path ∙ ap (λ b. put b z.now (task_of zs y.path)) (same_path-apart z.path y.path tasks.apart))
      ∙ tasks.others.there

  name_once : sum_by (on_name j.name) ks ≤ 1
  name_once = (corresponds m types main ys ks fits).names j.name

  -- the channels with this one put among the others
  others : (g : ChannelName) → channel_in js g ≡ put (same_channel j.name g) was (channel_in (without met.place) g)
  others g = channel_put (let a = sum_with (on_name j.name) met.place cut in let b = name_once in omega (arith, a, b))
      (in_place met.place cut) g

  at_h : channel_in js h ≡ Some was
  at_h = others h ∙ ap (λ n. put (same_channel n h) was (channel_in (without met.place) h)) met.name
      ∙ ap (λ b. put b was (channel_in (without met.place) h)) (same_channel-itself h)

  entry_is : met.entry ≡ passed ev t u was
  entry_is i = record { event = sym met.event i; stamp = entry_stamp i; sent = sym met.sent i; got = sym met.got i }

  channel_is : channel_of j ≡ extended was (passed ev t u was)
  channel_is i = record { declared = j.declared; history = (met.items ∙ ap (λ (d : Entry). met.before ++ d ∷ []) entry_is) i }

  -- what the event writes, and that it is possible then
  abbrev write : Write
  write = record {
    tasks = λ o. over (task_at z.path (has_met u v stamp) o) (task_at y.path (has_met t s stamp) o);
    channels = channel_at h (extended was (passed ev t u was));
  }

  abbrev does : Does m types (config_of zs js) (Meet y.path z.path h) write
  does = record {
    sender = t;
    receiver = u;
    end = tasks.sends.end;
    event = ev;
    sent = s;
    got = v;
    channel = was;
    puts = (at_y, l.enters.asked ∙ ap Some tasks.sends.asked);
    gets = (tasks.rest.there, k.enters.asked ∙ ap Some tasks.gets.asked ∙ ap (λ x. Some (Get x)) met.ends);
    named = tasks.sends.channel;
    there = at_h;
    sender_leads = answer_leads l Sent tasks.sends.answer;
    receiver_leads = got_leads;
    writes = refl;
  }

  stamped : IsStamp write n
  stamped = subst (IsStamp write) (sym has_stamp) (write_stamp m types (config_of zs js) (Meet y.path z.path h) write does).1

  tasks_are : (o : Path) → put (same_path z.path o) (has_met u v stamp)
      (put (same_path y.path o) (has_met t s stamp) (task_of zs o)) ≡ task_of ys o
  tasks_are o =
      (λ i. put (same_path z.path o) (sym z_now i) (put (same_path y.path o) (sym y_now i) (task_of zs o)))
      ∙ put_behind (same_path y.path o) (same_path z.path o) y.now z.now (task_of zs o)
      (λ a. same_path-apart z.path o (λ b. tasks.apart (b ∙ sym (same_path-same y.path o a))))
      ∙ ap (λ a. put (same_path y.path o) y.now a) (sym (tasks.rest.tasks o))
      ∙ sym (tasks.others.tasks o)

  channels_are : (g : ChannelName) → put (same_channel h g) (extended was (passed ev t u was)) (channel_in js g) ≡ channel_in ks g
  channels_are g =
      (λ i. put (same_channel (sym met.name i) g) (sym channel_is i) (channel_in js g))
      ∙ ap (λ o. put (same_channel j.name g) (channel_of j) o) (others g)
      ∙ put_twice (same_channel j.name g) (channel_of j) was (channel_in (without met.place) g)
      ∙ sym (channel_put name_once met.place g)

  undone : Undone m types main ys ks (Meet y.path z.path h) n
  undone = record {
    courses = zs;
    channels = js;
    fits = lessened m types main ys ks zs js fits less;
    parts = λ w.
        let a = tasks.others.parts w in
        let b = last_part w tasks.sender in
        let c = tasks.rest.parts w in
        let d = last_part w tasks.receiver in
        let f = ap (λ (p : Path). w (sent_part p h n)) tasks.sender.path in
        let i = ap (λ (q : Path). w (got_part q h n)) tasks.receiver.path in
        omega (arith, a, b, c, d, f, i);
    write = write;
    does = does;
    stamped = stamped;
    leads = meet_puts m types (config_of zs js) y.path z.path h write does
        ∙ (λ i. record { tasks = λ o. tasks_are o i; channels = λ g. channels_are g i });
  }

  meeting_undone : Undone m types main ys ks (Meet p q h) n
  meeting_undone =
      subst (λ p. Undone m types main ys ks (Meet p q h) n) tasks.sender.path
      (subst (λ q. Undone m types main ys ks (Meet y.path q h) n) tasks.receiver.path undone)

-- the meeting is taken back
pub meet_undone : (m : Program) (types : List Tree) (main : Birth) (ys : List Course) (ks : List ChannelHistory) →
    FitsRecord m types main ys ks →
    (p q : Path) (h : ChannelName) (n : ℕ) → HasPart ys (sent_part p h n) → HasPart ys (got_part q h n) → AreBy n ys →
    Undone m types main ys ks (Meet p q h) n
meet_undone m types main ys ks fits p q h n sent got by =
    let tasks = met_tasks m types ys fits.logs (paths_once (λ y. y) m main ys fits.root fits.births) p q h n sent got by in
    meeting_undone m types main ys ks fits p q h n tasks (met_entry m types main ys ks fits p q h n by tasks)
