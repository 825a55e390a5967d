-- An event of the machine makes a record that fits one with one more event.
use Rattle.std.proofs.Common.{◌≡◌, ◌∙◌, ℕ, suc, ◌+◌, Bool, true, false, List, [], ◌∷◌, ◌++◌, length, Some, refl, sym, ap, arith}
use Rattle.std.specs.Prelude.{sum_by, All, slice_get, if◌then◌else◌}
use Rattle.std.specs.Global.{Vec}
use Rattle.std.proofs.lemmas.List.{append-nil}
use Rattle.std.proofs.lemmas.List.Elements.{All-cons, All-push}
use Rattle.std.proofs.lemmas.List.Sums.{sum_by-append, sum_by-cons, sum_by_push}
use denote.RawPtr.{null_ptr}
use Rattle.fst_types.specs.Tree.{Tree}
use Rattle.fst_kinds.specs.WellFormed.{IsSession}
use Rattle.fst_types.specs.declared.ends.ChannelName.{ChannelName}
use Rattle.fst_types.specs.declared.event.ChannelHistory.{ChannelHistory}
use Rattle.fst_types.specs.declared.event.Entry.{Entry}
use Rattle.fst_machine.specs.declared.request.Request.{Request}
use Rattle.fst_machine.specs.declared.request.Request.TheVariants.{Step, New, Fork}
use Rattle.fst_machine.specs.declared.request.Answer.{Answer}
use Rattle.fst_machine.specs.declared.request.Answer.TheVariants.{Go, Made, Forked}
use Rattle.fst_machine.specs.Machine.{Program, State, pause, request, answered, or_lost, child}
use Rattle.fst_runs.specs.Configs.{Path, Task, Config, same_path, child_path, channel_name, new_task, channel_in}
use Rattle.fst_runs.specs.Events.{moved, has_made, has_forked}
use Rattle.fst_runs.specs.declared.log.LogEntry.{LogEntry}
use Rattle.fst_runs.specs.Logs.{Birth, Exchange, Opening, Enters, after_entry, made_after, exchanges, opened_by, openings, opening_of, births, birth_of}
use Rattle.fst_runs.specs.Notes.{Note, entries_at}
use Rattle.fst_runs.proofs.Laws.{same_path-itself, same_path-same, same_path-apart, put, with_task, with_channel, follows_more, opened_more}
use Rattle.fst_records.specs.Records.{Course, began, bears, opens, trades, task_of, log_of, config_of, FitsRecord, IsLogged, IsRecorded, shows}
use Rattle.fst_records.specs.Growing.{alone, events_of, IsRecordOf}
use Rattle.fst_records.proofs.Found.{on_path, no_log}
use Rattle.fst_records.proofs.Paths.{paths_once}
use Rattle.fst_records.proofs.Placing.{IsAt, put_first, channel_behind, sum_swapped, one_swapped, all_swapped}
use Rattle.fst_records.proofs.Sums.{exchanges_more, births_more, openings_more}
use Rattle.fst_records.proofs.Tests.{path_counts}

-- ---- one more entry

-- the events that a course logged alone
abbrev pub own_events : Course → ℕ
own_events y = sum_by (λ (e : LogEntry). alone e.answer) y.log

-- no entries
abbrev no_entries : Vec Entry
no_entries = record {
  ptr = null_ptr;
  len = 0;
  cap = 0;
  alloc = record { memory = record { seal = tt } };
  items = [];
  ok =
      (refl, omega arith);
  small = omega arith;
}

-- the entries of a history
abbrev pub entries_of : ChannelHistory → ℕ
entries_of k = length k.entries.items

-- an entry
abbrev pub entry : Request → Answer → ℕ → LogEntry
entry q r stamp = record { asked = q; answer = r; stamp = stamp }

-- the course with one more entry
abbrev pub entered : Program → Course → Request → Answer → ℕ → Course
entered m x q r stamp = record {
  path = x.path;
  first = x.first;
  log = x.log ++ entry q r stamp ∷ [];
  now = after_entry m x.now (entry q r stamp);
}

module _ (m : Program) (types : List Tree) (x : Course) (q : Request) (r : Answer) (stamp : ℕ) (logged : IsLogged m types x) where
  -- it is logged, where the channel that it makes has a type
  pub entered_logged : Enters m x.path x.now (entry q r stamp) →
      x.now.made + length (opened_by types q r) ≡ made_after r x.now.made → IsLogged m types (entered m x q r stamp)
  entered_logged e o = record {
    none_made = logged.none_made;
    none_forked = logged.none_forked;
    follows = follows_more m x.path x.first x.log x.now (entry q r stamp) logged.follows e;
    opened = opened_more types x.log (entry q r stamp) x.now.made (made_after r x.now.made) logged.opened o;
  }

  pub entered_trades : (w : Exchange → ℕ) → trades w (entered m x q r stamp) ≡ trades w x + sum_by w
      (exchanges x.now.clock (entry q r stamp ∷ []))
  entered_trades w = exchanges_more w m x.path x.first x.log (entry q r stamp ∷ []) x.now logged.follows

  pub entered_bears : (w : Birth → ℕ) → bears m w (entered m x q r stamp) ≡ bears m w x + sum_by w
      (births m x.path x.now (entry q r stamp ∷ []))
  entered_bears w = births_more w m x.path x.first x.log (entry q r stamp ∷ []) x.now logged.follows

  pub entered_opens : (w : ChannelName → Tree → ℕ) →
      opens types w (entered m x q r stamp) ≡ opens types w x + sum_by
      (λ (o : Opening). w o.name o.declared) (openings types (entry q r stamp ∷ []))
  entered_opens w = openings_more (λ (o : Opening). w o.name o.declared) types x.log (entry q r stamp ∷ [])

  pub entered_events : own_events (entered m x q r stamp) ≡ own_events x + alone r
  entered_events = sum_by-append (λ (e : LogEntry). alone e.answer) x.log (entry q r stamp ∷ []) ∙ omega arith

-- an entry of one task
abbrev pub noted : Path → LogEntry → List Note
noted p e = record { path = p; entry = e } ∷ []

-- logs of which this one is longer have gained the entry
log_gains : (p : Path) (e : LogEntry) (logs : Path → List LogEntry) (log : List LogEntry) → logs p ≡ log → (o : Path) →
    (if same_path p o then log ++ e ∷ [] else logs o) ≡ logs o ++ entries_at o (noted p e)
log_gains p e logs log is o = by (same_path p o) refl
  where
    by : (b : Bool) → same_path p o ≡ b → (if b then log ++ e ∷ [] else logs o) ≡ logs o ++ entries_at o (noted p e)
    by true s =
        let same = same_path-same p o s in
        ap (λ (l : List LogEntry). l ++ e ∷ []) (sym is ∙ ap logs same)
        ∙ ap (λ (c : Bool). logs o ++ (if c then e ∷ [] else []))
        (sym (ap (λ (x : Path). same_path x p) (sym same) ∙ same_path-itself p))
    by false s =
        sym (append-nil (logs o))
        ∙ ap (λ (c : Bool). logs o ++ (if c then e ∷ [] else []))
        (sym (same_path-apart o p (λ i. absurd (cc (sym s ∙ ap (same_path p) i ∙ same_path-itself p)))))

-- one of these courses has one more entry
module _ (m : Program) (types : List Tree) (ys : List Course) (logs : All (IsLogged m types) ys) (p : Path) (t : Task)
    (a : IsAt p ys t) (q : Request) (r : Answer) (stamp : ℕ) where
  -- the course, and all courses then
  abbrev pub one : Course
  one = entered m a.course q r stamp

  abbrev pub ones : List Course
  ones = a.with one

  one_logged : IsLogged m types a.course
  one_logged = one_swapped (IsLogged m types) ys (a.with a.course) a.course a.course (a.swaps a.course) logs

  pub ones_logged : Enters m a.course.path a.course.now (entry q r stamp) →
      a.course.now.made + length (opened_by types q r) ≡ made_after r a.course.now.made → All (IsLogged m types) ones
  ones_logged e o = all_swapped (IsLogged m types) ys ones a.course one (a.swaps one) logs
      (entered_logged m types a.course q r stamp one_logged e o)

  pub ones_are : (w : Birth → ℕ) → sum_by (λ (x : Course). w (began x)) ones ≡ sum_by (λ (x : Course). w (began x)) ys
  ones_are w = let b = sum_swapped (λ (x : Course). w (began x)) ys ones a.course one (a.swaps one) in omega (arith, b)

  pub ones_bear : (w : Birth → ℕ) →
      sum_by (bears m w) ones ≡ sum_by (bears m w) ys + sum_by w
      (births m a.course.path a.course.now (entry q r stamp ∷ []))
  ones_bear w =
      let b = sum_swapped (bears m w) ys ones a.course one (a.swaps one) in
      let c = entered_bears m types a.course q r stamp one_logged w in
      omega (arith, b, c)

  pub ones_open : (w : ChannelName → Tree → ℕ) →
      sum_by (opens types w) ones ≡ sum_by (opens types w) ys + sum_by
      (λ (o : Opening). w o.name o.declared) (openings types (entry q r stamp ∷ []))
  ones_open w =
      let b = sum_swapped (opens types w) ys ones a.course one (a.swaps one) in
      let c = entered_opens m types a.course q r stamp one_logged w in
      omega (arith, b, c)

  pub ones_trade : (w : Exchange → ℕ) →
      sum_by (trades w) ones ≡ sum_by (trades w) ys + sum_by w (exchanges a.course.now.clock (entry q r stamp ∷ []))
  ones_trade w =
      let b = sum_swapped (trades w) ys ones a.course one (a.swaps one) in
      let c = entered_trades m types a.course q r stamp one_logged w in
      omega (arith, b, c)

  pub ones_happen : sum_by own_events ones ≡ sum_by own_events ys + alone r
  ones_happen =
      let b = sum_swapped own_events ys ones a.course one (a.swaps one) in
      let c = entered_events m types a.course q r stamp one_logged in
      omega (arith, b, c)

  -- the tasks of all of them, where the one's is this
  pub ones_tasks : (u : Task) → one.now ≡ u → (o : Path) → task_of ones o ≡ put (same_path p o) u (task_of ys o)
  ones_tasks u e o = a.puts one a.path o ∙ ap (λ v. put (same_path p o) v (task_of ys o)) e

  -- their logs
  pub ones_logs : (o : Path) → log_of ones o ≡ log_of ys o ++ entries_at o (noted p (entry q r stamp))
  ones_logs o = a.logs one a.path o ∙ log_gains p (entry q r stamp) (log_of ys) a.course.log a.log o

-- ---- records that grow

-- courses and channels of which so much is more: births, channels that are made, what is exchanged, and events
pub record Grows (m : Program) (types : List Tree) (ys : List Course) (ks : List ChannelHistory) (zs : List Course)
    (js : List ChannelHistory) : Type 0 where
  pub born : (Birth → ℕ) → ℕ
  pub opened : (ChannelName → Tree → ℕ) → ℕ
  pub passed : (Exchange → ℕ) → ℕ
  pub births : (w : Birth → ℕ) → sum_by (λ (x : Course). w (began x)) zs ≡ sum_by (λ (x : Course). w (began x)) ys + born w
  pub bears : (w : Birth → ℕ) → sum_by (bears m w) zs ≡ sum_by (bears m w) ys + born w
  pub logs : All (IsLogged m types) zs
  pub channels : (w : ChannelName → Tree → ℕ) → sum_by (λ (k : ChannelHistory). w k.name k.declared) js ≡ sum_by
      (λ (k : ChannelHistory). w k.name k.declared) ks + opened w
  pub opens : (w : ChannelName → Tree → ℕ) → sum_by (opens types w) zs ≡ sum_by (opens types w) ys + opened w
  pub shows : (w : Exchange → ℕ) → sum_by (shows w) js ≡ sum_by (shows w) ks + passed w
  pub trades : (w : Exchange → ℕ) → sum_by (trades w) zs ≡ sum_by (trades w) ys + passed w
  pub histories : All IsRecorded js

-- they fit
pub grown : (m : Program) (types : List Tree) (main : Birth) (ys : List Course) (ks : List ChannelHistory) (zs : List Course)
    (js : List ChannelHistory) → FitsRecord m types main ys ks →
    Grows m types ys ks zs js → FitsRecord m types main zs js
grown m types main ys ks zs js fits g = record {
  root = fits.root;
  births = λ w. let a = fits.births w in let b = g.births w in let c = g.bears w in omega (arith, a, b, c);
  logs = g.logs;
  channels = λ w. let a = fits.channels w in let b = g.channels w in let c = g.opens w in omega (arith, a, b, c);
  exchanged = λ w. let a = fits.exchanged w in let b = g.shows w in let c = g.trades w in omega (arith, a, b, c);
  histories = g.histories;
}

module _ (m : Program) (types : List Tree) (main : Birth) (ys : List Course) (ks : List ChannelHistory)
    (fits : FitsRecord m types main ys ks) where
  -- so many events and one more
  abbrev later : ℕ
  later = suc (events_of ys ks)

  -- the configuration
  abbrev here : Config
  here = config_of ys ks

  -- the logs where that of the task with this path has gained an entry
  abbrev with_note : Path → LogEntry → Path → List LogEntry
  with_note p e o = log_of ys o ++ entries_at o (noted p e)

  -- ---- a task goes on by itself

  module _ (p : Path) (t : Task) (s : State) (a : IsAt p ys t) (asks : request m.families t.state ≡ Some Step)
      (leads : answered m t.state Go ≡ Some s) where
    abbrev local_stamp : ℕ
    local_stamp = suc t.clock

    abbrev local_courses : List Course
    local_courses = ones m types ys fits.logs p t a Step Go local_stamp

    local_now : (one m types ys fits.logs p t a Step Go local_stamp).now ≡ moved t s
    local_now = ap (λ (u : Task). after_entry m u (entry Step Go local_stamp)) a.now
        ∙ ap (λ o. record { state = or_lost o; made = t.made; forked = t.forked; clock = suc t.clock }) leads

    local_grows : Grows m types ys ks local_courses ks
    local_grows = record {
      born = λ w. 0;
      opened = λ w. 0;
      passed = λ w. 0;
      births = λ w. let b = ones_are m types ys fits.logs p t a Step Go local_stamp w in omega (arith, b);
      bears = λ w. let b = ones_bear m types ys fits.logs p t a Step Go local_stamp w in omega (arith, b);
      logs = ones_logged m types ys fits.logs p t a Step Go local_stamp (record {
        asked = ap (λ (u : Task). request m.families u.state) a.now ∙ asks;
        is_answered = ap (λ (u : Task). suc u.clock) (sym a.now);
        state = s;
        leads = ap (λ (u : Task). answered m u.state Go) a.now ∙ leads;
      }) (omega arith);
      channels = λ w. omega arith;
      opens = λ w. let b = ones_open m types ys fits.logs p t a Step Go local_stamp w in omega (arith, b);
      shows = λ w. omega arith;
      trades = λ w. let b = ones_trade m types ys fits.logs p t a Step Go local_stamp w in omega (arith, b);
      histories = fits.histories;
    }

    -- the record with one more event
    pub local_extends : IsRecordOf m types main (with_task here p (moved t s)) later (with_note p (entry Step Go local_stamp))
    local_extends = record {
      tasks = local_courses;
      channels = ks;
      fits = grown m types main ys ks local_courses ks fits local_grows;
      config = λ i. record {
        tasks = λ q. ones_tasks m types ys fits.logs p t a Step Go local_stamp (moved t s) local_now q i;
        channels = channel_in ks;
      };
      events = let b = ones_happen m types ys fits.logs p t a Step Go local_stamp in omega (arith, b);
      logged = ones_logs m types ys fits.logs p t a Step Go local_stamp;
    }

  -- ---- it makes a channel

  -- a channel over which nothing passed yet
  abbrev new_channel : ChannelName → Tree → ChannelHistory
  new_channel h d = record { name = h; declared = d; entries = no_entries }

  module _ (p : Path) (t : Task) (s : State) (n : ℕ) (d : Tree) (a : IsAt p ys t)
      (asks : request m.families t.state ≡ Some (New n))
      (there : slice_get types n ≡ Some d) (leads : answered m t.state (Made (channel_name p t.made)) ≡ Some s)
      (formed : IsSession [] d) where
    -- its name
    abbrev new_name : ChannelName
    new_name = channel_name p t.made

    new_named : channel_name a.course.path a.course.now.made ≡ new_name
    new_named = λ i. channel_name (a.path i) (a.now i).made

    abbrev new_stamp : ℕ
    new_stamp = suc t.clock

    abbrev new_courses : List Course
    new_courses = ones m types ys fits.logs p t a (New n) (Made new_name) new_stamp

    abbrev new_channels : List ChannelHistory
    new_channels = ks ++ new_channel new_name d ∷ []

    new_leads : answered m a.course.now.state (Made new_name) ≡ Some s
    new_leads = ap (λ (u : Task). answered m u.state (Made new_name)) a.now ∙ leads

    new_now : (one m types ys fits.logs p t a (New n) (Made new_name) new_stamp).now ≡ has_made t s (suc t.clock)
    new_now = (λ i. record {
      state = or_lost (new_leads i);
      made = suc (a.now i).made;
      forked =
          (a.now i).forked;
      clock = new_stamp;
    })

    new_grows : Grows m types ys ks new_courses new_channels
    new_grows = record {
      born = λ w. 0;
      opened = λ w. w new_name d;
      passed = λ w. 0;
      births = λ w. let b = ones_are m types ys fits.logs p t a (New n) (Made new_name) new_stamp w in omega (arith, b);
      bears = λ w. let b = ones_bear m types ys fits.logs p t a (New n) (Made new_name) new_stamp w in omega (arith, b);
      logs = ones_logged m types ys fits.logs p t a (New n) (Made new_name) new_stamp (record {
        asked = ap (λ (u : Task). request m.families u.state) a.now ∙ asks;
        is_answered = (ap (λ (u : Task). suc u.clock) (sym a.now), sym new_named);
        state = s;
        leads = new_leads;
      }) (ap (λ o. a.course.now.made + length (opening_of new_name o)) there ∙ omega arith);
      channels = λ w. sum_by_push (λ (k : ChannelHistory). w k.name k.declared) ks (new_channel new_name d);
      opens = λ w.
          let b = ones_open m types ys fits.logs p t a (New n) (Made new_name) new_stamp w in
          let c = ap (λ o. sum_by (λ (o : Opening). w o.name o.declared) (opening_of new_name o ++ [])) there in
          omega (arith, b, c);
      shows = λ w. let b = sum_by_push (shows w) ks (new_channel new_name d) in omega (arith, b);
      trades = λ w. let b = ones_trade m types ys fits.logs p t a (New n) (Made new_name) new_stamp w in omega (arith, b);
      histories = All-push IsRecorded ks (new_channel new_name d) fits.histories
          (record { formed = formed; trace = refl; stamped = tt });
    }

    -- the record with one more event
    pub new_extends : IsRecordOf m types main (with_task
        (with_channel here new_name (record { declared = d; history = [] })) p (has_made t s (suc t.clock))) later
        (with_note p (entry (New n) (Made new_name) new_stamp))
    new_extends = record {
      tasks = new_courses;
      channels = new_channels;
      fits = grown m types main ys ks new_courses new_channels fits new_grows;
      config = λ i. record {
        tasks = λ q.
            ones_tasks m types ys fits.logs p t a (New n) (Made new_name) new_stamp (has_made t s new_stamp) new_now q i;
        channels = λ g. channel_behind ks (new_channel new_name d) g i;
      };
      events =
          let b = ones_happen m types ys fits.logs p t a (New n) (Made new_name) new_stamp in
          let c = sum_by_push entries_of ks (new_channel new_name d) in
          omega (arith, b, c);
      logged = ones_logs m types ys fits.logs p t a (New n) (Made new_name) new_stamp;
    }

  -- ---- it makes a task

  -- a course that has done nothing yet
  abbrev new_course : Path → Task → Course
  new_course p t = record { path = p; first = t; log = []; now = t }

  module _ (p : Path) (t : Task) (s b : State) (a : IsAt p ys t) (asks : request m.families t.state ≡ Some Fork)
      (begins : child (pause m.families t.state) ≡ Some b) (leads : answered m t.state Forked ≡ Some s) where
    abbrev fork_stamp : ℕ
    fork_stamp = suc t.clock

    -- the new one
    abbrev forked_course : Course
    forked_course = new_course (child_path p t.forked) (new_task b (suc t.clock))

    abbrev fork_ones : List Course
    fork_ones = ones m types ys fits.logs p t a Fork Forked fork_stamp

    fork_leads : answered m a.course.now.state Forked ≡ Some s
    fork_leads = ap (λ (u : Task). answered m u.state Forked) a.now ∙ leads

    fork_now : (one m types ys fits.logs p t a Fork Forked fork_stamp).now ≡ has_forked t s (suc t.clock)
    fork_now = (λ i. record {
      state = or_lost (fork_leads i);
      made =
          (a.now i).made;
      forked = suc (a.now i).forked;
      clock = fork_stamp;
    })

    fork_begins : child (pause m.families a.course.now.state) ≡ Some b
    fork_begins = ap (λ (u : Task). child (pause m.families u.state)) a.now ∙ begins

    -- what the log forks is the new one
    fork_born : birth_of (child_path a.course.path a.course.now.forked) fork_stamp
        (child (pause m.families a.course.now.state)) ≡ began forked_course ∷ []
    fork_born = λ i. birth_of (child_path (a.path i) (a.now i).forked) fork_stamp (fork_begins i)

    fork_grows : Grows m types ys ks (forked_course ∷ fork_ones) ks
    fork_grows = record {
      born = λ w. w (began forked_course);
      opened = λ w. 0;
      passed = λ w. 0;
      births = λ w.
          let c = ones_are m types ys fits.logs p t a Fork Forked fork_stamp w in
          let e = sum_by-cons (λ (x : Course). w (began x)) forked_course fork_ones in
          omega (arith, c, e);
      bears = λ w.
          let c = ones_bear m types ys fits.logs p t a Fork Forked fork_stamp w in
          let e = sum_by-cons (bears m w) forked_course fork_ones in
          let f = ap (λ bs. sum_by w (bs ++ [])) fork_born in
          omega (arith, c, e, f);
      logs = All-cons (IsLogged m types) forked_course fork_ones
          (record { none_made = refl; none_forked = refl; follows = refl; opened = refl })
          (ones_logged m types ys fits.logs p t a Fork Forked fork_stamp (record {
            asked = ap (λ (u : Task). request m.families u.state) a.now ∙ asks;
            is_answered = ap (λ (u : Task). suc u.clock) (sym a.now);
            state = s;
            leads = fork_leads;
          }) (omega arith));
      channels = λ w. omega arith;
      opens = λ w.
          let c = ones_open m types ys fits.logs p t a Fork Forked fork_stamp w in
          let e = sum_by-cons (opens types w) forked_course fork_ones in
          omega (arith, c, e);
      shows = λ w. omega arith;
      trades = λ w.
          let c = ones_trade m types ys fits.logs p t a Fork Forked fork_stamp w in
          let e = sum_by-cons (trades w) forked_course fork_ones in
          omega (arith, c, e);
      histories = fits.histories;
    }

    fork_fits : FitsRecord m types main (forked_course ∷ fork_ones) ks
    fork_fits = grown m types main ys ks (forked_course ∷ fork_ones) ks fits fork_grows

    -- no other task has its path
    fork_free : sum_by (on_path (child_path p t.forked)) fork_ones ≡ 0
    fork_free =
        let a = paths_once (λ (y : Course). y) m main (forked_course ∷ fork_ones) fork_fits.root fork_fits.births
        (child_path p t.forked) in
        let b = sum_by-cons (on_path (child_path p t.forked)) forked_course fork_ones in
        let c = path_counts (child_path p t.forked) (child_path p t.forked) refl in
        omega (arith, a, b, c)

    -- so the logs are those of the others
    fork_logs : (o : Path) → log_of (forked_course ∷ fork_ones) o ≡ log_of fork_ones o
    fork_logs o = by (same_path (child_path p t.forked) o) refl
      where
        by : (c : Bool) → same_path (child_path p t.forked) o ≡ c → (if c then [] else log_of fork_ones o) ≡ log_of fork_ones o
        by true e = sym (no_log fork_ones (child_path p t.forked) fork_free) ∙ ap (log_of fork_ones)
            (same_path-same (child_path p t.forked) o e)
        by false e = refl

    -- the record with one more event
    pub fork_extends : IsRecordOf m types main
        (with_task (with_task here p (has_forked t s (suc t.clock))) (child_path p t.forked) (new_task b (suc t.clock))) later
        (with_note p (entry Fork Forked fork_stamp))
    fork_extends = record {
      tasks = forked_course ∷ fork_ones;
      channels = ks;
      fits = fork_fits;
      config = λ i. record {
        tasks = λ q.
            (put_first (same_path (child_path p t.forked) q) (new_task b (suc t.clock)) (task_of fork_ones q)
            ∙ ap (λ o. put (same_path (child_path p t.forked) q) (new_task b (suc t.clock)) o)
            (ones_tasks m types ys fits.logs p t a Fork Forked fork_stamp (has_forked t s (suc t.clock)) fork_now q)) i;
        channels = channel_in ks;
      };
      events =
          let c = ones_happen m types ys fits.logs p t a Fork Forked fork_stamp in
          let e = sum_by-cons own_events forked_course fork_ones in
          omega (arith, c, e);
      logged = λ o. fork_logs o ∙ ones_logs m types ys fits.logs p t a Fork Forked fork_stamp o;
    }
