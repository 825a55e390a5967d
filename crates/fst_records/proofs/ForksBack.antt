-- A record whose last event makes a task.
use Rattle.std.proofs.Common.{◌≡◌, ◌∙◌, ◌⊎◌, inl, inr, ℕ, suc, List, [], ◌∷◌, Some, length, length-append, refl, sym, ap, subst, arith}
use Rattle.std.specs.Prelude.{sum_by}
use Rattle.fst_types.specs.Tree.{Tree}
use Rattle.fst_types.specs.declared.event.ChannelHistory.{ChannelHistory}
use Rattle.fst_lts.specs.Histories.{over}
use Rattle.fst_machine.specs.declared.request.Answer.TheVariants.{Forked}
use Rattle.fst_machine.specs.Machine.{Program, State, pause, child}
use Rattle.fst_machine.proofs.Laws.{forks_child}
use Rattle.fst_runs.specs.declared.event.CoreEvent.TheVariants.{Fork}
use Rattle.fst_runs.specs.declared.log.LogEntry.{LogEntry}
use Rattle.fst_runs.specs.Configs.{Path, Task, same_path, child_path, new_task, channel_in}
use Rattle.fst_runs.specs.Events.{Write, Does, has_forked, task_at, no_channel}
use Rattle.fst_runs.specs.Logs.{Birth, Opening, Follows, born_by, birth_of, opened_by, exchanged_by, exchanges, openings, births}
use Rattle.fst_runs.specs.StampedRuns.{IsStamp}
use Rattle.fst_runs.proofs.Laws.{later, put, fork_puts, write_stamp}
use Rattle.fst_records.specs.Records.{Course, began, bears, opens, trades, FitsRecord, IsLogged, task_of, config_of}
use Rattle.fst_records.specs.Parts.{Part, forked, part_by, parts_by}
use Rattle.fst_records.proofs.Codes.{just, just_itself, just_same, birth_code}
use Rattle.fst_records.proofs.Deeds.{HasForked, has_done}
use Rattle.fst_records.proofs.Found.{on_path}
use Rattle.fst_records.proofs.LogEntries.{AreBy, entry_by}
use Rattle.fst_records.proofs.Lasts.{Last, HasLast, has_last, now_after, answer_leads, AreApart, none_before, task_first, Shortened, shortened}
use Rattle.fst_records.proofs.Lists.{IsAmong, Found, found, without, one_or_among, sum_without, all_one, all_without}
use Rattle.fst_records.proofs.Paths.{paths_once}
use Rattle.fst_records.proofs.Undoing.{Lessens, lessened, HasPart, Undone, last_part}

-- a child's path isn't its parent's
child_apart : (p : Path) (k : ℕ) → p ≡ child_path p k → ⊥
child_apart p k e =
    let a = ap length e in
    let b = length-append p (suc k ∷ []) in
    omega (arith, a, b)

module _ (m : Program) (types : List Tree) (main : Birth) (ys : List Course) (ks : List ChannelHistory)
    (fits : FitsRecord m types main ys ks) (p : Path) (n : ℕ) (has : HasPart ys (record { path = p; deed = forked; stamp = n }))
    (by : AreBy n ys) where
  -- the part, and the course whose last entry it is, with the entry and the task before it
  abbrev part : Part
  part = record { path = p; deed = forked; stamp = n }

  there : HasLast m ys part
  there = has_last m types ys part fits.logs by has

  abbrev y : Course
  y = there.course

  abbrev e : LogEntry
  e = there.entry

  abbrev l : Last m y e
  l = there.last

  abbrev t : Task
  t = l.before

  kind : HasForked t e.stamp e.asked e.answer
  kind = has_done y.path t e.stamp e.asked e.answer forked l.enters.is_answered there.deed

  has_child : (b : State) × (child (pause m.families t.state) ≡ Some b)
  has_child = forks_child (pause m.families t.state) (l.enters.asked ∙ ap Some kind.asked)

  -- the state in which the new task begins
  abbrev b : State
  b = has_child.0

  -- the state after it
  abbrev s : State
  s = l.enters.state

  -- how the new task begins
  abbrev new : Birth
  new = record { path = child_path y.path t.forked; first = new_task b e.stamp }

  born_is : (w : Birth → ℕ) → sum_by w (born_by m y.path t e.stamp e.answer) ≡ w new
  born_is w =
      let a = ap (λ a. sum_by w (born_by m y.path t e.stamp a)) kind.answer in
      let c = ap (λ o. sum_by w (birth_of (child_path y.path t.forked) e.stamp o)) has_child.1 in
      omega (arith, a, c)

  one : AreApart ys
  one = paths_once (λ y. y) m main ys fits.root fits.births

  -- the new task's course
  new_course : Found (λ (x : Course). just birth_code new (began x)) ys
  new_course = found (λ (x : Course). just birth_code new (began x)) ys
      (let a = fits.births (just birth_code new) in
      let c = (shortened m types ys fits.logs one there.place l).bears (just birth_code new) in
      let d = born_is (just birth_code new) in
      let f = just_itself birth_code new in
      omega (arith, a, c, d, f))

  -- it
  abbrev z : Course
  z = new_course.item

  begins_so : new ≡ began z
  begins_so = just_same birth_code new (began z) new_course.counts

  path_is : child_path y.path t.forked ≡ z.path
  path_is = ap (λ (b : Birth). b.path) begins_so

  first_is : new_task b e.stamp ≡ z.first
  first_is = ap (λ (b : Birth). b.first) begins_so

  z_logged : IsLogged m types z
  z_logged = all_one (IsLogged m types) new_course.place fits.logs

  -- it hasn't moved
  idle : z.log ≡ []
  idle = go z.log refl
    where
      go : (es : List LogEntry) → z.log ≡ es → es ≡ []
      go [] q = refl
      go (g ∷ gs) q =
          let f = subst (λ l. Follows m z.path z.first l z.now) q z_logged.follows in
          let a = later z.path z.first g.stamp g.asked g.answer f.0.is_answered in
          let c = entry_by by new_course.place (record { before = []; behind = gs; is = q }) f.0 in
          let d = ap (λ (t : Task). t.clock) first_is in
          let k = there.stamp in
          absurd (omega (arith, a, c, d, k))

  now_first : z.now ≡ new_task b (suc t.clock)
  now_first =
      subst (λ l. Follows m z.path z.first l z.now) idle z_logged.follows ∙ sym first_is ∙ ap (new_task b) kind.stamp_is

  -- the courses without it
  abbrev xs : List Course
  xs = without new_course.place

  -- the maker is among them
  among_others : IsAmong xs y
  among_others = go (one_or_among new_course.place there.place)
    where
      go : (z ≡ y) ⊎ IsAmong xs y → IsAmong xs y
      go (inl q) = absurd (child_apart y.path t.forked (sym (ap (λ (y : Course). y.path) q) ∙ sym path_is))
      go (inr a) = a

  less_one : AreApart xs
  less_one x =
      let a = sum_without (on_path x) new_course.place in
      let c = one x in
      omega (arith, a, c)

  -- without the maker's last entry
  back : Shortened m types xs y e l
  back = shortened m types xs (all_without (IsLogged m types) new_course.place fits.logs) less_one among_others l

  abbrev zs : List Course
  zs = back.courses

  less : Lessens m types ys ks zs ks
  less = record {
    born = λ w. w new;
    opened = λ w. 0;
    passed = λ w. 0;
    births = λ w.
        let a = sum_without (λ (x : Course). w (began x)) new_course.place in
        let c = back.births w in
        let d = ap w begins_so in
        omega (arith, a, c, d);
    bears = λ w.
        let a = sum_without (bears m w) new_course.place in
        let c = back.bears w in
        let d = born_is w in
        let f = ap (λ (k : List LogEntry). sum_by w (births m z.path z.first k)) idle in
        omega (arith, a, c, d, f);
    logs = back.logs;
    channels = λ w. omega arith;
    opens = λ w.
        let a = sum_without (opens types w) new_course.place in
        let c = back.opens w in
        let d : sum_by (λ (o : Opening). w o.name o.declared) (opened_by types e.asked e.answer) ≡ 0 =
        (λ i. sum_by (λ (o : Opening). w o.name o.declared) (opened_by types (kind.asked i) (kind.answer i))) in
        let f = ap (λ (k : List LogEntry). sum_by (λ (o : Opening). w o.name o.declared) (openings types k)) idle in
        omega (arith, a, c, d, f);
    shows = λ w. omega arith;
    trades = λ w.
        let a = sum_without (trades w) new_course.place in
        let c = back.trades w in
        let d : sum_by w (exchanged_by t.clock e.stamp e.asked e.answer) ≡ 0 =
        (λ i. sum_by w (exchanged_by t.clock e.stamp (kind.asked i) (kind.answer i))) in
        let f = ap (λ (k : List LogEntry). sum_by w (exchanges z.first.clock k)) idle in
        omega (arith, a, c, d, f);
    histories = fits.histories;
  }

  now_is : y.now ≡ has_forked t s (suc t.clock)
  now_is = now_after l Forked (suc t.clock) kind.answer kind.stamp_is

  -- what the event writes, and that it is possible then
  abbrev write : Write
  write = record {
    tasks = λ q. over (task_at (child_path y.path t.forked) (new_task b (suc t.clock)) q)
        (task_at y.path (has_forked t s (suc t.clock)) q);
    channels = no_channel;
  }

  abbrev does : Does m types (config_of zs ks) (Fork y.path) write
  does = record {
    task = t;
    state = s;
    begun = b;
    asks = (back.there, l.enters.asked ∙ ap Some kind.asked);
    begins = has_child.1;
    leads = answer_leads l Forked kind.answer;
    writes = refl;
  }

  stamped : IsStamp write n
  stamped = subst (IsStamp write) (sym kind.stamp_is ∙ there.stamp)
      (write_stamp m types (config_of zs ks) (Fork y.path) write does).1

  tasks_are : (q : Path) → put (same_path (child_path y.path t.forked) q) (new_task b (suc t.clock))
      (put (same_path y.path q) (has_forked t s (suc t.clock)) (task_of zs q)) ≡ task_of ys q
  tasks_are q =
      (λ i. put (same_path (path_is i) q) (sym now_first i) (put (same_path y.path q) (sym now_is i) (task_of zs q)))
      ∙ ap (λ o. put (same_path z.path q) z.now o) (sym (back.tasks q))
      ∙ sym (task_first new_course.place.before z new_course.place.behind (none_before one new_course.place) q)
      ∙ ap (λ k. task_of k q) (sym new_course.place.is)

  undone : Undone m types main ys ks (Fork y.path) n
  undone = record {
    courses = zs;
    channels = ks;
    fits = lessened m types main ys ks zs ks fits less;
    parts = λ w.
        let a = sum_without (parts_by w) new_course.place in
        let c = back.parts w in
        let d = last_part w there in
        let f = ap (λ (p : Path). w (record { path = p; deed = forked; stamp = n })) there.path in
        let g = ap (λ (k : List LogEntry). sum_by (part_by w z.path) k) idle in
        omega (arith, a, c, d, f, g);
    write = write;
    does = does;
    stamped = stamped;
    leads = fork_puts m types (config_of zs ks) y.path write does
        ∙ (λ i. record { tasks = λ q. tasks_are q i; channels = channel_in ks });
  }

  -- the new task is taken back
  pub fork_undone : Undone m types main ys ks (Fork p) n
  fork_undone = subst (λ p. Undone m types main ys ks (Fork p) n) there.path undone
