-- The marks of a record from which the machine goes on, and of what it does from there.
use Rattle.std.proofs.Common.{◌≡◌, ◌∙◌, ◌+◌, ◌<◌, ◌≤◌, ℕ, zero, Bool, true, false, Some, List, [], ◌∷◌, ◌++◌, length, refl, sym, ap, subst, arith}
use Rattle.std.specs.Prelude.{All, sum_by, if◌then◌else◌}
use Rattle.std.proofs.lemmas.List.Elements.{All-nil, All-cons, All-head, All-tail}
use Rattle.std.proofs.lemmas.List.Sums.{sum_by-cons}
use Rattle.fst_types.specs.Tree.{Tree}
use Rattle.fst_types.specs.declared.event.ChannelHistory.{ChannelHistory}
use Rattle.fst_terms.specs.CoreTree.{CoreTree}
use Rattle.fst_terms.specs.declared.core_module.Module.{Module}
use Rattle.fst_machine.specs.Machine.{Program}
use Rattle.fst_machine.specs.declared.code.Code.{Code}
use Rattle.fst_vm.specs.declared.report.Outcome.{Outcome}
use Rattle.fst_vm.specs.declared.report.Outcome.TheVariants.{Done, OutOfSteps}
use Rattle.fst_vm.specs.declared.report.Report.{Report}
use Rattle.fst_runs.specs.declared.log.LogEntry.{LogEntry}
use Rattle.fst_runs.specs.Configs.{Path, Task, same_path, program}
use Rattle.fst_runs.specs.Events.{IsLast}
use Rattle.fst_runs.specs.Logs.{Birth, Follows, after_entry}
use Rattle.fst_runs.specs.Notes.{entries_at}
use Rattle.fst_runs.specs.Wrong.{once}
use Rattle.fst_runs.proofs.Laws.{least_runs, same_path-same}
use Rattle.fst_process.specs.declared.marks.Mark.{Mark}
use Rattle.fst_process.specs.declared.marks.TaskMarks.{TaskMarks}
use Rattle.fst_process.specs.KeptOf.{kept_of}
use Rattle.fst_process.specs.Marks.{AreMarks, AreOnce, IsMarkedFrom, IsMarkedOutcomeFrom, forked_by, forks_behind, marks_at, marks_from}
use Rattle.fst_process.specs.Reports.{IsReport}
use Rattle.fst_process.proofs.Laws.{marks_from-append}
use Rattle.fst_records.specs.Growing.{IsRecordOf, IsWithin, events_of}
use Rattle.fst_records.specs.Records.{Course, IsLogged, config_of, log_of, main_birth, task_of}
use Rattle.fst_records.proofs.Laws.{runs, on_path, paths_once, stamps, path_counts}
use Rattle.fst_safety.specs.Safety.{IsSafeAt}
use Rattle.fst_worker.specs.declared.ending.TaskLog.{TaskLog}
use Rattle.fst_worker.specs.declared.finishing.Settled.{Settled}
use Rattle.fst_worker.specs.Ending.{AreLogsOf}
use Rattle.fst_worker.specs.Events.{IsRecordAnswer}
use Rattle.fst_worker.specs.Finishing.{AreMarksOf, IsRecordKept}
use Rattle.fst_worker.specs.Working.{IsMarkedRecord}
use Rattle.fst_worker.proofs.AlongRuns.{record_answers, stays_fine}

-- ---- how many tasks a task has forked

module _ (m : Program) (types : List Tree) where
  -- as many as its log says
  forks_of : (path : Path) (t : Task) (es : List LogEntry) (u : Task) → Follows m path t es u →
      u.forked ≡ forks_behind t.forked es
  forks_of path t [] u f = ap (λ (t : Task). t.forked) f
  forks_of path t (e ∷ es) u f = forks_of path (after_entry m t e) es u f.1

  -- from the beginning on
  all_forks : (y : Course) → IsLogged m types y → forks_behind zero y.log ≡ y.now.forked
  all_forks y l = ap (λ n. forks_behind n y.log) (sym l.none_forked) ∙ sym (forks_of y.path y.first y.log y.now l.follows)

  -- so it is with each task of a record
  forks_at : (ys : List Course) → All (IsLogged m types) ys → (p : Path) →
      forks_behind zero (log_of ys p) ≡ forked_by (task_of ys p)
  forks_at [] all p = refl
  forks_at (y ∷ ys) all p = by (same_path y.path p) (forks_at ys (All-tail (IsLogged m types) y ys all) p)
    where
      by : (b : Bool) → forks_behind zero (log_of ys p) ≡ forked_by (task_of ys p) →
          forks_behind zero (if b then y.log else log_of ys p) ≡ forked_by (if b then Some y.now else task_of ys p)
      by true more = all_forks y (All-head (IsLogged m types) y ys all)
      by false more = more

  -- where nothing of the courses is over a bound, no log says that more was forked
  forks_few : (n : ℕ) (ls : List TaskLog) (ys : List Course) → AreLogsOf ls ys → All (IsLogged m types) ys →
      All (IsWithin n) ys → n < 4294967295 → All (λ (l : TaskLog). forks_behind zero l.entries.items < 4294967295) ls
  forks_few n [] ys h logged within few = All-nil (λ (l : TaskLog). forks_behind zero l.entries.items < 4294967295)
  forks_few n (l ∷ ls) [] h logged within few = absurd h
  forks_few n (l ∷ ls) (y ∷ ys) h logged within few =
      let a = ap (forks_behind zero) h.0.entries in
      let b = all_forks y (All-head (IsLogged m types) y ys logged) in
      let c = (All-head (IsWithin n) y ys within).forked in
      All-cons (λ (l : TaskLog). forks_behind zero l.entries.items < 4294967295) l ls (omega (arith, a, b, c, few))
      (forks_few n ls ys h.1 (All-tail (IsLogged m types) y ys logged) (All-tail (IsWithin n) y ys within) few)

-- ---- the marks of logs

-- the marks that are found are those of the log that is found
marks_found : (ls : List TaskLog) (ys : List Course) (ts : List TaskMarks) → AreLogsOf ls ys → AreMarksOf ls ts → (p : Path) →
    marks_at ts p ≡ marks_from p zero (log_of ys p)
marks_found [] [] [] h q p = refl
marks_found [] [] (t ∷ ts) h q p = absurd q
marks_found [] (y ∷ ys) ts h q p = absurd h
marks_found (l ∷ ls) [] ts h q p = absurd h
marks_found (l ∷ ls) (y ∷ ys) [] h q p = absurd q
marks_found (l ∷ ls) (y ∷ ys) (t ∷ ts) h q p =
    ap (λ o. if same_path o p then t.marks.items else marks_at ts p) (q.0.path ∙ h.0.path)
    ∙ by (same_path y.path p) refl (marks_found ls ys ts h.1 q.1 p)
  where
    by : (b : Bool) → same_path y.path p ≡ b → marks_at ts p ≡ marks_from p zero (log_of ys p) →
        (if b then t.marks.items else marks_at ts p) ≡ marks_from p zero (if b then y.log else log_of ys p)
    by true e more =
        q.0.marks ∙ (λ i. marks_from ((h.0.path ∙ same_path-same y.path p e) i) zero (h.0.entries i))
    by false e more = more

-- a test that counts nothing fails
none_counts : (b : Bool) → once b ≡ 0 → b ≡ false
none_counts true e = absurd (omega (arith, e))
none_counts false e = refl

-- where no course has a path, no task has it
none_there : (p : Path) (ls : List TaskLog) (ys : List Course) (ts : List TaskMarks) → AreLogsOf ls ys → AreMarksOf ls ts →
    sum_by (on_path p) ys ≡ 0 → All (λ (t : TaskMarks). same_path p t.path ≡ false) ts
none_there p ls ys [] h q none = All-nil (λ (t : TaskMarks). same_path p t.path ≡ false)
none_there p [] ys (t ∷ ts) h q none = absurd q
none_there p (l ∷ ls) [] (t ∷ ts) h q none = absurd h
none_there p (l ∷ ls) (y ∷ ys) (t ∷ ts) h q none =
    let a = sum_by-cons (on_path p) y ys in
    All-cons (λ (t : TaskMarks). same_path p t.path ≡ false) t ts
    (ap (same_path p) (q.0.path ∙ h.0.path) ∙ none_counts (same_path p y.path) (omega (arith, a, none)))
    (none_there p ls ys ts h.1 q.1 (omega (arith, a, none)))

-- where no two courses have one path, no two tasks have one
marks_once : (ls : List TaskLog) (ys : List Course) (ts : List TaskMarks) → AreLogsOf ls ys → AreMarksOf ls ts →
    ((p : Path) → sum_by (on_path p) ys ≤ 1) → AreOnce ts
marks_once ls ys [] h q one = tt
marks_once [] ys (t ∷ ts) h q one = absurd q
marks_once (l ∷ ls) [] (t ∷ ts) h q one = absurd h
marks_once (l ∷ ls) (y ∷ ys) (t ∷ ts) h q one =
    let same = q.0.path ∙ h.0.path in
    let a = sum_by-cons (on_path t.path) y ys in
    let b = path_counts t.path y.path same in
    let c = one t.path in (
      none_there t.path ls ys ts h.1 q.1 (omega (arith, a, b, c)),
      marks_once ls ys ts h.1 q.1 (λ p. let d = sum_by-cons (on_path p) y ys in let e = one p in omega (arith, d, e)),
    )

-- ---- the marks of the record that a run ends with

module _ (k : Code) (main : Birth) (steps : ℕ) (s : Settled) (h : IsRecordKept k main steps s) (early : main.first.clock ≡ 0)
    (below : steps < 4294967295) where
  abbrev m : Module
  m = k.module.value

  abbrev ys : List Course
  ys = h.tasks

  abbrev ks : List ChannelHistory
  ks = h.channels

  -- no log has too many forks
  pub few_forks : All (λ (l : TaskLog). forks_behind zero l.entries.items < 4294967295) s.logs.items
  few_forks =
      let few = h.few in
      forks_few (program m) m.types.items (events_of ys ks) s.logs.items ys h.logs h.fits.logs
      (stamps (program m) m.types.items main ys ks h.fits early).tasks (omega (arith, few, below))

  -- what the machine has marked it has marked from the configuration of the record
  from : (o : Outcome) (ts : List TaskMarks) → IsMarkedOutcomeFrom k s.config.events steps (kept_of s.config) o ts →
      IsMarkedFrom m (config_of ys ks) (events_of ys ks) steps o ts
  from o ts out =
      subst (λ n. IsMarkedOutcomeFrom k n steps (kept_of s.config) o ts) h.events out m (config_of ys ks) h.reflects h.goes.makers
      h.goes.parents h.goes.right

  -- there is a record with more events
  pub is_more : (ts : List TaskMarks) → IsMarkedOutcomeFrom k s.config.events steps (kept_of s.config) OutOfSteps ts →
      IsRecordAnswer m main steps OutOfSteps
  is_more ts out =
      let f = from OutOfSteps ts out in
      record_answers m main ys ks steps OutOfSteps early h.fits h.stays (omega (arith, below))
      (f.events, f.config, f.least, f.end)

  -- the marks of the logs and those of what the machine has done are the marks of a record
  pub is_marked : (r : Report) (first more all : List TaskMarks) → AreMarksOf s.logs.items first →
      IsMarkedOutcomeFrom k s.config.events steps (kept_of s.config) (Done r) more →
      ((f g : Path → List Mark) → AreMarks first f → AreMarks more g → AreMarks all (λ p. f p ++ g p)) →
      (e : CoreTree) → main ≡ main_birth e → IsMarkedRecord m e steps r all
  is_marked r first more all own out joins e begins =
      let f = from (Done r) more out in
      let n = events_of ys ks + length f.events in
      let last = f.end.0 in
      let le = f.end.1 in
      let report = f.end.2 in
      let run = least_runs (program m) m.types.items (config_of ys ks) f.events f.config f.least in
      let gained = λ (p : Path). log_of ys p ++ entries_at p f.notes in
      let d : IsRecordOf (program m) m.types.items main f.config n gained =
      runs (program m) m.types.items main ys ks h.fits f.events f.config f.notes early (omega (arith, le, below))
      (stays_fine m (config_of ys ks) h.stays) f.noted in
      let z : IsRecordOf (program m) m.types.items (main_birth e) f.config n gained =
      subst (λ main. IsRecordOf (program m) m.types.items main f.config n gained) begins d in
      let marks : AreMarks first (λ (p : Path). marks_from p zero (log_of ys p)) = record {
        once = marks_once s.logs.items ys first h.logs own
            (paths_once (λ (y : Course). y) (program m) main ys h.fits.root h.fits.births);
        are = marks_found s.logs.items ys first h.logs own;
      } in
      let both = joins (λ (p : Path). marks_from p zero (log_of ys p))
      (λ (p : Path). marks_from p (forked_by (task_of ys p)) (entries_at p f.notes)) marks f.marks in
      record {
        tasks = z.tasks;
        channels = z.channels;
        fits = z.fits;
        safe = subst (IsSafeAt m) (sym z.config) (h.stays f.events f.config run);
        last = subst (IsLast (program m) m.types.items) (sym z.config) last;
        few = subst (λ l. l ≤ steps) (sym z.events) le;
        report = subst (λ c. IsReport (program m) c (events_of z.tasks z.channels) r) (sym z.config)
            (subst (λ l. IsReport (program m) f.config l r) (sym z.events) report);
        marks = record {
          once = both.once;
          are = λ p.
              both.are p
              ∙ ap (λ l. marks_from p zero (log_of ys p) ++ marks_from p l (entries_at p f.notes))
              (sym (forks_at (program m) m.types.items ys h.fits.logs p))
              ∙ sym (marks_from-append p zero (log_of ys p) (entries_at p f.notes))
              ∙ ap (marks_from p zero) (sym (z.logged p));
        };
      }
