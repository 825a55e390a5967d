-- A run that is finished on the machine: what its tasks, their ends and their closed channels come to.
use Rattle.std.proofs.Common.{◌≡◌, ◌∙◌, ◌⊎◌, inl, inr, ◌<◌, ◌≤◌, ℕ, ◌+◌, ◌^◌, List, [], ◌∷◌, ◌++◌, length, map, refl, sym, ap, subst, arith}
use Rattle.std.specs.List.Sorted.{IsStrictlySortedBy}
use Rattle.std.specs.Prelude.{All, IsPermutation, sum_by}
use Rattle.std.proofs.lemmas.List.Elements.{All-head, All-tail}
use Rattle.std.proofs.lemmas.List.Sorted.{IsPermutation-refl}
use Rattle.std.proofs.lemmas.List.Sums.{sum_by-cons, sum_by-append}
use Rattle.fst_terms.specs.declared.core_module.Module.{Module}
use Rattle.fst_derivations.specs.Rules.{Surroundings}
use Rattle.fst_types.specs.declared.event.ChannelHistory.{ChannelHistory}
use Rattle.fst_machine.specs.declared.code.Code.{Code}
use Rattle.fst_machine.specs.declared.request.Request.TheVariants.{Put}
use Rattle.fst_machine.specs.declared.request.Answer.TheVariants.{Sent}
use Rattle.fst_vm.specs.TaskView.{TaskView}
use Rattle.fst_vm.specs.Tasks.{IsIn}
use Rattle.fst_vm.specs.declared.report.Outcome.{Outcome}
use Rattle.fst_vm.specs.declared.report.Outcome.TheVariants.{OutOfSteps}
use Rattle.fst_runs.specs.Configs.{Config, program}
use Rattle.fst_runs.specs.Logs.{Birth}
use Rattle.fst_process.specs.Kept.{Kept}
use Rattle.fst_process.specs.KeptOf.{kept_of}
use Rattle.fst_process.specs.Reflects.{Reflects}
use Rattle.fst_process.specs.Resuming.{Tasks, CanResume, IsResumed}
use Rattle.fst_process.specs.Runs.{CanRunFrom, IsOutcomeFrom}
use Rattle.fst_cell.specs.declared.answers.Closed.{Closed}
use Rattle.fst_cell.specs.End.{EndView, end_name}
use Rattle.fst_runs.specs.declared.log.LogEntry.{LogEntry}
use Rattle.fst_safety.specs.declared.tasks.TypedTask.{TypedTask}
use Rattle.fst_safety.specs.Sound.{SoundStaysSafe}
use Rattle.fst_safety.specs.Tasks.{module_of}
use Rattle.fst_safety.specs.Threads.{Thread}
use Rattle.fst_safety.specs.Turns.{of_ends}
use Rattle.fst_worker.specs.declared.ending.Bare.{Bare}
use Rattle.fst_worker.specs.declared.ending.TaskLog.{TaskLog}
use Rattle.fst_worker.specs.declared.finishing.Settled.{Settled}
use Rattle.fst_worker.specs.Records.{Pair, IsOver, histories_of}
use Rattle.fst_records.specs.Records.{Course, FitsRecord, config_of}
use Rattle.fst_worker.specs.Works.{course_of}
use Rattle.fst_worker.specs.Configs.{Stayed, Told, AreTold, Joins}
use Rattle.fst_worker.specs.Resumes.{AreTasksOf, ClocksWithin, Resumes}
use Rattle.fst_worker.specs.Closing.{AreOfRun, AreClosedTo, name_cmp, names_of}
use Rattle.fst_worker.specs.Ending.{TellsWaiting, AreBare, AreBareOf, AreLogsOf, AreTellable, AreToldTo, ends_of}
use Rattle.fst_records.specs.Growing.{alone, events_of, IsWithin}
use Rattle.fst_worker.specs.Events.{IsRecordAnswer}
use Rattle.fst_worker.specs.Finishing.{AreRunOf, IsRecordKept, IsUpTo, alone_in, alone_of, entries_of}
use Rattle.fst_worker.specs.Shares.{AreKept}
use Rattle.fst_worker.proofs.AlongRuns.{record_answers}
use Rattle.fst_worker.proofs.Ended as ended
use Rattle.fst_worker.proofs.Ordering.{in_order}
use Rattle.fst_worker.proofs.Resuming.{resumes}
use Rattle.fst_records.proofs.Laws.{stamps}
use Rattle.fst_worker.proofs.Telling.{joins}

-- ---- tasks and their threads

module _ (k : Code) where
  -- the ends of the tasks are those of the threads
  ends_kept : (ts : List TypedTask) (xs : List Thread) → AreKept k ts xs →
      (w : EndView → ℕ) → sum_by (of_ends w) xs ≡ sum_by w (ends_of ts)
  ends_kept [] [] h w = refl
  ends_kept [] (x ∷ xs) h w = absurd h
  ends_kept (t ∷ ts) [] h w = absurd h
  ends_kept (t ∷ ts) (x ∷ xs) h w =
      let a = sum_by-cons (of_ends w) x xs in
      let b = sum_by-append w (t.bag.items ++ t.retired.items) (ends_of ts) in
      let c = sum_by-append w t.bag.items t.retired.items in
      let d = ap (sum_by w) h.0.bag in
      let e = ap (sum_by w) h.0.retired in
      let more = ends_kept ts xs h.1 w in
      omega (arith, a, b, c, d, e, more)

  -- a task without its ends is that of its thread
  bare_kept : (ts : List TypedTask) (bs : List Bare) (xs : List Thread) → AreKept k ts xs → AreBare ts bs → AreBareOf k bs xs
  bare_kept [] [] [] h b = tt
  bare_kept [] [] (x ∷ xs) h b = absurd h
  bare_kept [] (d ∷ bs) xs h b = absurd b
  bare_kept (t ∷ ts) [] xs h b = absurd b
  bare_kept (t ∷ ts) (d ∷ bs) [] h b = absurd h
  bare_kept (t ∷ ts) (d ∷ bs) (x ∷ xs) h b = (
    record {
      task = record {
        path = ap (λ (t : TaskView). t.path) b.0.task ∙ h.0.path;
        is_in = subst (λ (t : TaskView). IsIn k.module.value k t x.now.state) (sym b.0.task) h.0.is_in;
        forked = ap (λ (t : TaskView). t.forked) b.0.task ∙ h.0.forked;
        time = b.0.clock ∙ h.0.clock;
      };
      log = b.0.log ∙ h.0.log;
      waits = subst (λ es. TellsWaiting es d.waits) h.0.bag b.0.waits;
    },
    bare_kept ts bs xs h.1 b.1,
  )

  -- no clock of the tasks is over what no clock of the courses is over
  clocks_in : (n : ℕ) (ts : Tasks) (ys : List Course) → AreTasksOf k.module.value k ts ys → All (IsWithin n) ys →
      ClocksWithin n ts
  clocks_in n [] [] h all = tt
  clocks_in n [] (y ∷ ys) h all = absurd h
  clocks_in n (t ∷ ts) [] h all = absurd h
  clocks_in n (t ∷ ts) (y ∷ ys) h all =
      (omega (arith, h.0.time, (All-head (IsWithin n) y ys all).clock), clocks_in n ts ys h.1 (All-tail (IsWithin n) y ys all))

-- ---- events

-- how many entries of a course's log are for what its task does alone
abbrev alone_by : Course → ℕ
alone_by y = alone_in y.log

-- of a thread's log
abbrev alone_of_thread : Thread → ℕ
alone_of_thread x = alone_by (course_of x)

alone_kept : (k : Code) (ts : List TypedTask) (xs : List Thread) → AreKept k ts xs → sum_by alone_of_thread xs ≡ alone_of ts
alone_kept k [] [] h = refl
alone_kept k [] (x ∷ xs) h = absurd h
alone_kept k (t ∷ ts) [] h = absurd h
alone_kept k (t ∷ ts) (x ∷ xs) h =
    let a = sum_by-cons alone_of_thread x xs in
    let b = sum_by-cons (λ (t : TypedTask). alone_in t.log.items) t ts in
    let d = ap alone_in h.0.log in
    let more = alone_kept k ts xs h.1 in
    omega (arith, a, b, d, more)

-- what a task is told isn't something that it did alone
alone_same : (m : Surroundings) (ks : List ChannelHistory) (x : Thread) (y : Course) → Stayed ks x y ⊎ Told m ks x y →
    alone_by y ≡ alone_of_thread x
alone_same m ks x y (inl s) = ap alone_by s.is
alone_same m ks x y (inr t) =
    let e : LogEntry = record { asked = Put (end_name t.end) t.entry.event; answer = Sent; stamp = t.entry.stamp } in
    let a : alone_by y ≡ alone_in (x.log ++ e ∷ []) = ap alone_by t.is in
    let b = sum_by-append (λ (e : LogEntry). alone e.answer) x.log (e ∷ []) in
    omega (arith, a, b)

alone_told : (m : Surroundings) (ks : List ChannelHistory) (xs : List Thread) (ys : List Course) → AreTold m ks xs ys →
    sum_by alone_by ys ≡ sum_by alone_of_thread xs
alone_told m ks [] [] h = refl
alone_told m ks [] (y ∷ ys) h = absurd h
alone_told m ks (x ∷ xs) [] h = absurd h
alone_told m ks (x ∷ xs) (y ∷ ys) h =
    let a = sum_by-cons alone_of_thread x xs in
    let b = sum_by-cons alone_by y ys in
    let d = alone_same m ks x y h.0 in
    let more = alone_told m ks xs ys h.1 in
    omega (arith, a, b, d, more)

entries_same : (cs : List Closed) → sum_by (λ (k : ChannelHistory). length k.entries.items)
    (map (λ (c : Closed). c.history) cs) ≡ entries_of cs
entries_same [] = refl
entries_same (c ∷ cs) =
    let a = sum_by-cons (λ (k : ChannelHistory). length k.entries.items) c.history (map (λ (c : Closed). c.history) cs) in
    let b = sum_by-cons (λ (c : Closed). length c.history.entries.items) c cs in
    let more = entries_same cs in
    omega (arith, a, b, more)

-- ---- the end of a run

module _ (k : Code) (ts : List TypedTask) (d : AreRunOf k ts) where
  -- the ends of its tasks are those of a run
  pub of_run : AreOfRun (ends_of ts)
  of_run = record {
    surroundings = module_of k;
    type = d.type;
    main = d.main;
    threads = d.threads;
    run = d.run;
    ends =
        ends_kept k ts d.threads d.kept;
  }

  module _ (cs : List Closed) (shut : AreClosedTo (ends_of ts) cs) where
    over : IsOver (module_of k) d.type d.main d.threads shut.pairs
    over = ended.over (ends_of ts) cs shut (module_of k) d.type d.main d.threads d.run (ends_kept k ts d.threads d.kept)

    -- its tasks can be told what became of their offers
    pub are_tellable : (bs : List Bare) → AreBare ts bs → AreTellable k bs cs
    are_tellable bs bare = record {
      run = record {
        type = d.type;
        code = d.code;
        main = d.main;
        threads = d.threads;
        pairs = shut.pairs;
        over = over;
        closed =
            shut.closed;
      };
      bare = bare_kept k ts bs d.threads d.kept bare;
    }

-- ---- what was done with them

-- the ends of the tasks were taken, the channels were closed, and the tasks were told so
pub record AreFinished (k : Code) (ts : List TypedTask) (cs : List Closed) (us : Tasks) (ls : List TaskLog) : Type 0 where
  pub shut : AreClosedTo (ends_of ts) cs
  pub order : IsStrictlySortedBy name_cmp (names_of cs)
  pub bare : List Bare
  pub are_bare : AreBare ts bare
  pub tell : (d : AreTellable k bare cs) → AreToldTo k (histories_of d.run.pairs) d.run.threads us ls

-- so it is where the ends were put behind none
pub finished : (k : Code) (ts : List TypedTask) (ds es : List EndView) (cs vs : List Closed) (bs : List Bare) (us : Tasks)
    (ls : List TaskLog) →
    ds ≡ [] → es ≡ ds ++ ends_of ts → AreBare ts bs →
    AreClosedTo es cs → IsStrictlySortedBy name_cmp (names_of cs) → vs ≡ cs →
    ((d : AreTellable k bs vs) → AreToldTo k (histories_of d.run.pairs) d.run.threads us ls) →
    AreFinished k ts cs us ls
finished k ts ds es cs vs bs us ls none taken bare shut order same tell = record {
  shut = subst (λ es. AreClosedTo es cs) (taken ∙ ap (λ ds. ds ++ ends_of ts) none) shut;
  order = order;
  bare = bs;
  are_bare = bare;
  tell = subst (λ cs. (d : AreTellable k bs cs) → AreToldTo k (histories_of d.run.pairs) d.run.threads us ls) same tell;
}

-- all events are counted, where none is too many
pub counted_so : (steps alone all : ℕ) (ts tl : List TypedTask) (cs cl : List Closed) → tl ≡ ts →
    IsUpTo steps (alone_of tl) alone → cl ≡ cs →
    ((n : ℕ) → IsUpTo steps n alone → IsUpTo steps (n + entries_of cl) all) → IsUpTo steps (alone_of ts + entries_of cs) all
counted_so steps alone all ts tl cs cl same first alike more =
    subst (λ cs. IsUpTo steps (alone_of ts + entries_of cs) all) alike
    (more (alone_of ts) (subst (λ ts. IsUpTo steps (alone_of ts) alone) same first))

module _ (k : Code) (ts : List TypedTask) (cs : List Closed) (us : Tasks) (ls : List TaskLog) (f : AreFinished k ts cs us ls)
    (d : AreRunOf k ts) where
  abbrev ps : List Pair
  ps = f.shut.pairs

  run_over : IsOver (module_of k) d.type d.main d.threads ps
  run_over = over k ts d cs f.shut

  told : AreToldTo k (histories_of ps) d.threads us ls
  unfolding are_tellable
  told = f.tell (are_tellable k ts d cs f.shut f.bare f.are_bare)

  abbrev m : Module
  m = k.module.value

  abbrev hs : List ChannelHistory
  hs = map (λ (c : Closed). c.history) cs

  same : histories_of ps ≡ hs
  same = ended.histories (ends_of ts) cs f.shut

  moved : IsPermutation (histories_of ps) hs
  moved = subst (IsPermutation (histories_of ps)) same (IsPermutation-refl (histories_of ps))

  joined : Joins (module_of k) d.type d.main d.threads ps told.after
  joined = joins m d.code.derivations d.code.derived d.type d.main d.threads ps run_over told.after told.told

  fits : FitsRecord (program m) m.types.items d.main told.after hs
  fits = subst (FitsRecord (program m) m.types.items d.main told.after) same joined.record_fits

  -- and the machine can go on from the tasks and the closed channels
  abbrev config : Config
  config = config_of told.after hs

  goes_on : Resumes m k us hs config
  goes_on = resumes m d.code.derivations d.code.derived d.type d.main d.threads ps run_over told.after told.told k us hs
      d.code.from told.tasks moved
      (in_order (module_of k) d.type d.main d.threads ps run_over cs f.shut.closed f.order)

  pub can_resume : CanResume k us hs
  can_resume = goes_on.can_resume

  -- the record has so many events
  events : events_of told.after hs ≡ alone_of ts + entries_of cs
  events =
      let a = alone_told (module_of k) (histories_of ps) d.threads told.after told.told in
      let b = alone_kept k ts d.threads d.kept in
      let c = entries_same cs in
      omega (arith, a, b, c)

  within : ClocksWithin (events_of told.after hs) us
  within = clocks_in k (events_of told.after hs) us told.after told.tasks
      (stamps (program m) m.types.items d.main told.after hs fits d.begins).tasks

  module _ (steps n : ℕ) (counted : IsUpTo steps (alone_of ts + entries_of cs) n) where
    -- where they are more than the steps, that is the answer
    pub is_out : steps < n → IsRecordAnswer m d.main steps OutOfSteps
    is_out more = let a = counted.more more in (told.after, hs, fits, omega (arith, a, events))

    module _ (few : n ≤ steps) (v : Kept) (kept : IsResumed k us hs v) where
      all : n ≡ events_of told.after hs
      all = counted.all few ∙ sym events

      clocks : ClocksWithin n us
      clocks = subst (λ n. ClocksWithin n us) (sym all) within

      -- otherwise what is kept of them is the configuration of the record
      pub is_kept : SoundStaysSafe → (s : Settled) → kept_of s.config ≡ v → s.config.events ≡ n → s.logs.items ≡ ls →
          IsRecordKept k d.main steps s
      is_kept stays s is_in many logs =
          let w = goes_on.within n clocks in
          let right = goes_on.goes.right [] config refl in
          record {
            tasks = told.after;
            channels = hs;
            fits = fits;
            stays = stays m d.code.derivations d.code.derived d.type d.code.main config (joined.sound hs moved);
            goes = goes_on.goes;
            reflects = subst (λ (v : Kept). Reflects m k (events_of told.after hs) v config) (sym is_in)
                (subst (λ n. Reflects m k n v config) all (kept m n config goes_on.all right w.0 w.1));
            events = many ∙ all;
            few = omega (arith, few, all);
            logs = subst (λ ls. AreLogsOf ls told.after) (sym logs) told.logs;
          }

-- ---- what the run comes to

-- the machine can go on from what is kept
pub can_run : (k : Code) (main : Birth) (steps : ℕ) (s : Settled) → IsRecordKept k main steps s →
    CanRunFrom k s.config.events (kept_of s.config)
can_run k main steps s h =
    subst (λ n. CanRunFrom k n (kept_of s.config)) (sym h.events) (record {
      source = k.module.value;
      config = config_of h.tasks h.channels;
      reflects = h.reflects;
      makers = h.goes.makers;
      parents = h.goes.parents;
      right = h.goes.right;
    })

-- and what it comes to is the answer
pub is_answer : (k : Code) (main : Birth) (steps : ℕ) (s : Settled) → IsRecordKept k main steps s → main.first.clock ≡ 0 →
    steps < 2 ^ 32 → (o : Outcome) → IsOutcomeFrom k s.config.events steps (kept_of s.config) o →
    IsRecordAnswer k.module.value main steps o
is_answer k main steps s h early below o out =
    let m = k.module.value in
    let from = subst (λ n. IsOutcomeFrom k n steps (kept_of s.config) o) h.events out m (config_of h.tasks h.channels) h.reflects
    h.goes.makers h.goes.parents h.goes.right in
    record_answers m main h.tasks h.channels steps o early h.fits h.stays below from
