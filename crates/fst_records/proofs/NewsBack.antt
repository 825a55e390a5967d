-- A record whose last event makes a channel.
use Rattle.std.proofs.Common.{◌≡◌, ◌∙◌, ◌<◌, ℕ, suc, ◌+◌, List, [], Bool, true, false, ◌&&◌, Option, Some, None, length, refl, sym, ap, subst, arith}
use Rattle.std.specs.Prelude.{sum_by, slice_get}
use Rattle.std.proofs.lemmas.Bool.{and_from}
use Rattle.fst_base.proofs.Bools.{and_parts}
use Rattle.fst_types.specs.Tree.{Tree}
use Rattle.fst_types.specs.ModelCode.{tree_code}
use Rattle.fst_types.specs.declared.side.Side.TheVariants.{Left, Right}
use Rattle.fst_types.specs.declared.ends.ChannelName.{ChannelName}
use Rattle.fst_types.specs.declared.event.ChannelHistory.{ChannelHistory}
use Rattle.fst_types.specs.declared.event.Entry.{Entry}
use Rattle.fst_terms.specs.CoreTree.{CoreTree}
use Rattle.fst_machine.specs.declared.request.Answer.TheVariants.{Made}
use Rattle.fst_machine.specs.Machine.{Program, State}
use Rattle.fst_runs.specs.declared.event.CoreEvent.TheVariants.{New}
use Rattle.fst_runs.specs.declared.log.LogEntry.{LogEntry}
use Rattle.fst_runs.specs.Configs.{Path, Task, Channel, same_path, same_channel, channel_name, channel_in}
use Rattle.fst_runs.specs.Events.{Write, Does, has_made, task_at, channel_at}
use Rattle.fst_runs.specs.Logs.{Opening, born_by, opened_by, opening_of, exchanged_by, made_after}
use Rattle.fst_runs.specs.StampedRuns.{IsStamp}
use Rattle.fst_runs.specs.Wrong.{once}
use Rattle.fst_runs.proofs.Laws.{same_channel-same, same_channel-itself, put, new_puts, write_stamp}
use Rattle.fst_records.specs.Records.{Course, main_birth, opens, FitsRecord, IsLogged, IsRecorded, shows, shown_of, task_of, config_of}
use Rattle.fst_records.specs.Parts.{Part, made}
use Rattle.fst_records.proofs.Channels.{channel_put}
use Rattle.fst_records.proofs.Deeds.{HasMade, has_done}
use Rattle.fst_records.proofs.Entries.{corresponds}
use Rattle.fst_records.proofs.LogEntries.{AreBy}
use Rattle.fst_records.proofs.Lasts.{Last, HasLast, has_last, now_after, answer_leads, opened_last, Shortened, shortened}
use Rattle.fst_records.proofs.Lists.{Found, found, is_in, without, sum_without, all_one, all_without}
use Rattle.fst_records.proofs.MadeLast.{nothing_passed}
use Rattle.fst_records.proofs.Paths.{paths_once}
use Rattle.fst_records.proofs.Tests.{same_by, same_by-itself, same_by-same}
use Rattle.fst_records.proofs.Undoing.{Lessens, lessened, HasPart, Undone, last_part}

-- the name is this one, and the type is
abbrev is_channel : ChannelName → Tree → ChannelName → Tree → Bool
is_channel h d g t = same_channel h g && same_by tree_code d t

both_same : (h : ChannelName) (d : Tree) (g : ChannelName) (t : Tree) → 0 < once (is_channel h d g t) → (h ≡ g) × (d ≡ t)
both_same h d g t n = by (is_channel h d g t) refl n
  where
    by : (b : Bool) → is_channel h d g t ≡ b → 0 < once b → (h ≡ g) × (d ≡ t)
    by false e n = absurd (omega (arith, n))
    by true e n =
        let a = and_parts (same_channel h g) (same_by tree_code d t) e in
        (same_channel-same h g a.0, same_by-same tree_code d t a.1)

module _ (m : Program) (types : List Tree) (main : CoreTree) (ys : List Course) (ks : List ChannelHistory)
    (fits : FitsRecord m types (main_birth main) ys ks) (p : Path) (n : ℕ)
    (has : HasPart ys (record { path = p; deed = made; stamp = n })) (by : AreBy n ys) where
  -- the part, and the course whose last entry it is, with the entry and the task before it
  abbrev part : Part
  part = record { path = p; deed = made; stamp = n }

  there : HasLast m ys part
  there = has_last m types ys part fits.logs by has

  abbrev y : Course
  y = there.course

  abbrev e : LogEntry
  e = there.entry

  abbrev l : Last m y e
  l = there.last

  abbrev t : Task
  t = l.before

  kind : HasMade y.path t e.stamp e.asked e.answer
  kind = has_done y.path t e.stamp e.asked e.answer made l.enters.is_answered there.deed

  -- the channel's name
  abbrev h : ChannelName
  h = channel_name y.path t.made

  -- the state after it
  abbrev s : State
  s = l.enters.state

  -- the courses without it
  back : Shortened m types ys y e l
  back = shortened m types ys fits.logs (paths_once (λ y. y) m (main_birth main) ys fits.root fits.births) there.place l

  abbrev zs : List Course
  zs = back.courses

  -- its type is there
  type_there : (d : Tree) × (slice_get types kind.number ≡ Some d)
  type_there = go (slice_get types kind.number) refl
    where
      go : (o : Option Tree) → slice_get types kind.number ≡ o → (d : Tree) × (slice_get types kind.number ≡ Some d)
      go (Some d) q = (d, q)
      go None q =
          let a = opened_last types (all_one (IsLogged m types) there.place fits.logs) l in
          let b = ap (λ a. made_after a t.made) kind.answer in
          let c : length (opened_by types e.asked e.answer) ≡ length (opening_of h (slice_get types kind.number)) =
          (λ i. length (opened_by types (kind.asked i) (kind.answer i))) in
          let d = ap (λ o. length (opening_of h o)) q in
          absurd (omega (arith, a, b, c, d))

  -- it
  abbrev d : Tree
  d = type_there.0

  -- the channel that is made there, however it is weighed
  opened : (w : ChannelName → Tree → ℕ) → sum_by (opens types w) ys ≡ sum_by (opens types w) zs + w h d
  opened w =
      let a = back.opens w in
      let b : sum_by (λ (o : Opening). w o.name o.declared) (opened_by types e.asked e.answer)
      ≡ sum_by (λ (o : Opening). w o.name o.declared) (opening_of h (slice_get types kind.number)) =
      (λ i. sum_by (λ (o : Opening). w o.name o.declared) (opened_by types (kind.asked i) (kind.answer i))) in
      let c = ap (λ o. sum_by (λ (o : Opening). w o.name o.declared) (opening_of h o)) type_there.1 in
      omega (arith, a, b, c)

  -- the channel among those of the record
  channel : Found (λ (k : ChannelHistory). once (is_channel h d k.name k.declared)) ks
  channel = found (λ (k : ChannelHistory). once (is_channel h d k.name k.declared)) ks
      (let w = λ (g : ChannelName) (t : Tree). once (is_channel h d g t) in
      let a = fits.channels w in
      let b = opened w in
      let f = ap once (and_from (same_channel h h) (same_by tree_code d d) (same_channel-itself h)
      (same_by-itself tree_code d d refl)) in
      omega (arith, a, b, f))

  -- its history
  abbrev k : ChannelHistory
  k = channel.item

  same_as : (h ≡ k.name) × (d ≡ k.declared)
  same_as = both_same h d k.name k.declared channel.counts

  passed_none : k.entries.items ≡ []
  passed_none = nothing_passed m types main ys ks fits there.place l kind.answer (subst (λ n. AreBy n ys) (sym there.stamp) by) k
      (is_in channel.place) (sym same_as.0)

  -- the other channels
  abbrev js : List ChannelHistory
  js = without channel.place

  less : Lessens m types ys ks zs js
  less = record {
    born = λ w. 0;
    opened = λ w. w h d;
    passed = λ w. 0;
    births = λ w. let a = back.births w in omega (arith, a);
    bears = λ w.
        let a = back.bears w in
        let b = ap (λ a. sum_by w (born_by m y.path t e.stamp a)) kind.answer in
        omega (arith, a, b);
    logs = back.logs;
    channels = λ w.
        let a = sum_without (λ (k : ChannelHistory). w k.name k.declared) channel.place in
        let b : w k.name k.declared ≡ w h d = λ i. w (sym same_as.0 i) (sym same_as.1 i) in
        omega (arith, a, b);
    opens = opened;
    shows = λ w.
        let a = sum_without (shows w) channel.place in
        let b =
        ap (λ (h : List Entry). sum_by w (shown_of k.name Left k.declared h) + sum_by w (shown_of k.name Right k.declared h))
        passed_none in
        omega (arith, a, b);
    trades = λ w.
        let a = back.trades w in
        let b : sum_by w (exchanged_by t.clock e.stamp e.asked e.answer) ≡ 0 =
        (λ i. sum_by w (exchanged_by t.clock e.stamp (kind.asked i) (kind.answer i))) in
        omega (arith, a, b);
    histories = all_without IsRecorded channel.place fits.histories;
  }

  now_is : y.now ≡ has_made t s (suc t.clock)
  now_is = now_after l (Made h) (suc t.clock) kind.answer kind.stamp_is

  -- as it is made
  abbrev fresh : Channel
  fresh = record { declared = d; history = [] }

  -- what the event writes, and that it is possible then
  abbrev write : Write
  write = record { tasks = task_at y.path (has_made t s (suc t.clock)); channels = channel_at h fresh }

  abbrev does : Does m types (config_of zs js) (New y.path) write
  does = record {
    task = t;
    state = s;
    number = kind.number;
    declared = d;
    asks = (back.there, l.enters.asked ∙ ap Some kind.asked);
    typed = type_there.1;
    leads = answer_leads l (Made h) kind.answer;
    writes = refl;
  }

  stamped : IsStamp write n
  stamped = subst (IsStamp write) (sym kind.stamp_is ∙ there.stamp)
      (write_stamp m types (config_of zs js) (New y.path) write does).1

  channels_are : (g : ChannelName) → put (same_channel h g) fresh (channel_in js g) ≡ channel_in ks g
  channels_are g =
      (λ i. put (same_channel (same_as.0 i) g) (record { declared = same_as.1 i; history = sym passed_none i }) (channel_in js g))
      ∙ sym (channel_put ((corresponds m types (main_birth main) ys ks fits).names k.name) channel.place g)

  undone : Undone m types (main_birth main) ys ks (New y.path) n
  undone = record {
    courses = zs;
    channels = js;
    fits = lessened m types (main_birth main) ys ks zs js fits less;
    parts = λ w.
        let a = back.parts w in
        let b = last_part w there in
        let c = ap (λ (p : Path). w (record { path = p; deed = made; stamp = n })) there.path in
        omega (arith, a, b, c);
    write = write;
    does = does;
    stamped = stamped;
    leads = new_puts m types (config_of zs js) y.path write does ∙ (λ i. record {
      tasks = λ q. (ap (λ u. put (same_path y.path q) u (task_of zs q)) (sym now_is) ∙ sym (back.tasks q)) i;
      channels = λ g. channels_are g i;
    });
  }

  -- the channel is taken back
  pub new_undone : Undone m types (main_birth main) ys ks (New p) n
  new_undone = subst (λ p. Undone m types (main_birth main) ys ks (New p) n) there.path undone
