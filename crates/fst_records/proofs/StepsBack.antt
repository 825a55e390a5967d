-- A record whose last event is a step of one task.
use Rattle.std.proofs.Common.{◌≡◌, ◌∙◌, ℕ, suc, List, Some, refl, sym, ap, subst, arith}
use Rattle.std.specs.Prelude.{sum_by}
use Rattle.fst_types.specs.Tree.{Tree}
use Rattle.fst_types.specs.declared.event.ChannelHistory.{ChannelHistory}
use Rattle.fst_machine.specs.declared.request.Answer.TheVariants.{Go}
use Rattle.fst_machine.specs.Machine.{Program, State}
use Rattle.fst_runs.specs.declared.event.CoreEvent.TheVariants.{Local}
use Rattle.fst_runs.specs.declared.log.LogEntry.{LogEntry}
use Rattle.fst_runs.specs.Configs.{Path, Task, same_path, channel_in}
use Rattle.fst_runs.specs.Events.{Write, Does, moved, task_at, no_channel}
use Rattle.fst_runs.specs.Logs.{Birth, Opening, born_by, opened_by, exchanged_by}
use Rattle.fst_runs.specs.StampedRuns.{IsStamp}
use Rattle.fst_runs.proofs.Laws.{put, local_puts, write_stamp}
use Rattle.fst_records.specs.Records.{Course, FitsRecord, task_of, config_of}
use Rattle.fst_records.specs.Parts.{Part, stepped}
use Rattle.fst_records.proofs.Deeds.{HasStepped, has_done}
use Rattle.fst_records.proofs.LogEntries.{AreBy}
use Rattle.fst_records.proofs.Lasts.{Last, HasLast, has_last, now_after, answer_leads, Shortened, shortened}
use Rattle.fst_records.proofs.Paths.{paths_once}
use Rattle.fst_records.proofs.Undoing.{Lessens, lessened, HasPart, Undone, last_part}

module _ (m : Program) (types : List Tree) (main : Birth) (ys : List Course) (ks : List ChannelHistory)
    (fits : FitsRecord m types main ys ks) (p : Path) (n : ℕ) (has : HasPart ys (record { path = p; deed = stepped; stamp = n }))
    (by : AreBy n ys) where
  -- the part, and the course whose last entry it is, with the entry and the task before it
  abbrev part : Part
  part = record { path = p; deed = stepped; stamp = n }

  there : HasLast m ys part
  there = has_last m types ys part fits.logs by has

  abbrev y : Course
  y = there.course

  abbrev e : LogEntry
  e = there.entry

  abbrev l : Last m y e
  l = there.last

  abbrev t : Task
  t = l.before

  kind : HasStepped t e.stamp e.asked e.answer
  kind = has_done y.path t e.stamp e.asked e.answer stepped l.enters.is_answered there.deed

  -- the state after it
  abbrev s : State
  s = l.enters.state

  -- the courses without it
  back : Shortened m types ys y e l
  back = shortened m types ys fits.logs (paths_once (λ y. y) m main ys fits.root fits.births) there.place l

  abbrev zs : List Course
  zs = back.courses

  less : Lessens m types ys ks zs ks
  less = record {
    born = λ w. 0;
    opened = λ w. 0;
    passed = λ w. 0;
    births = λ w. let a = back.births w in omega (arith, a);
    bears = λ w.
        let a = back.bears w in
        let b = ap (λ a. sum_by w (born_by m y.path t e.stamp a)) kind.answer in
        omega (arith, a, b);
    logs = back.logs;
    channels = λ w. omega arith;
    opens = λ w.
        let a = back.opens w in
        let b : sum_by (λ (o : Opening). w o.name o.declared) (opened_by types e.asked e.answer) ≡ 0 =
        (λ i. sum_by (λ (o : Opening). w o.name o.declared) (opened_by types (kind.asked i) (kind.answer i))) in
        omega (arith, a, b);
    shows = λ w. omega arith;
    trades = λ w.
        let a = back.trades w in
        let b : sum_by w (exchanged_by t.clock e.stamp e.asked e.answer) ≡ 0 =
        (λ i. sum_by w (exchanged_by t.clock e.stamp (kind.asked i) (kind.answer i))) in
        omega (arith, a, b);
    histories = fits.histories;
  }

  now_is : y.now ≡ moved t s
  now_is = now_after l Go (suc t.clock) kind.answer kind.stamp_is

  -- what the event writes, and that it is possible then
  abbrev write : Write
  write = record { tasks = task_at y.path (moved t s); channels = no_channel }

  abbrev does : Does m types (config_of zs ks) (Local y.path) write
  does = record {
    task = t;
    state = s;
    asks = (back.there, l.enters.asked ∙ ap Some kind.asked);
    leads = answer_leads l Go kind.answer;
    writes = refl;
  }

  stamped : IsStamp write n
  stamped = subst (IsStamp write) (sym kind.stamp_is ∙ there.stamp)
      (write_stamp m types (config_of zs ks) (Local y.path) write does).1

  undone : Undone m types main ys ks (Local y.path) n
  undone = record {
    courses = zs;
    channels = ks;
    fits = lessened m types main ys ks zs ks fits less;
    parts = λ w.
        let a = back.parts w in
        let b = last_part w there in
        let c = ap (λ (p : Path). w (record { path = p; deed = stepped; stamp = n })) there.path in
        omega (arith, a, b, c);
    write = write;
    does = does;
    stamped = stamped;
    leads = local_puts m types (config_of zs ks) y.path write does ∙ (λ i. record {
      tasks = λ q. (ap (λ u. put (same_path y.path q) u (task_of zs q)) (sym now_is) ∙ sym (back.tasks q)) i;
      channels = channel_in ks;
    });
  }

  -- the step is taken back
  pub step_undone : Undone m types main ys ks (Local p) n
  step_undone = subst (λ p. Undone m types main ys ks (Local p) n) there.path undone
