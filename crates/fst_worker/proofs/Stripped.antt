-- Tasks without their ends, and what they are told of their offers.
use Rattle.std.proofs.Common.{◌≡◌, ◌∙◌, inl, inr, ◌<◌, ◌≤◌, ℕ, zero, suc, true, false, Option, Some, None, List, [], ◌∷◌, ◌++◌, length, refl, sym, ap, subst, arith}
use Rattle.std.specs.Prelude.{All, Contains, IsSome, is_some, slice_index_or}
use Rattle.std.proofs.lemmas.List.Elements.{All-contains, Contains-get_or}
use Rattle.std.proofs.lemmas.Option.{none-some, same_Some}
use Rattle.fst_lts.specs.Histories.{last_stamp}
use Rattle.fst_types.specs.declared.ends.EndName.{EndName}
use Rattle.fst_types.specs.declared.event.ChannelHistory.{ChannelHistory}
use Rattle.fst_types.specs.declared.event.Entry.{Entry}
use Rattle.fst_machine.specs.declared.code.Code.{Code}
use Rattle.fst_machine.specs.declared.request.Request.{Request}
use Rattle.fst_machine.specs.declared.request.Request.TheVariants.{Put}
use Rattle.fst_machine.specs.declared.request.Answer.TheVariants.{Sent}
use Rattle.fst_machine.specs.Machine.{asked}
use Rattle.fst_vm.specs.TaskView.{TaskView}
use Rattle.fst_vm.specs.Tasks.{AsksFor, IsAtRest, HasNext, Takes, GoesOn, Stays}
use Rattle.fst_runs.specs.declared.log.LogEntry.{LogEntry}
use Rattle.fst_cell.specs.declared.answers.Closed.{Closed}
use Rattle.fst_cell.specs.declared.content.Offer.{Offer}
use Rattle.fst_cell.specs.End.{EndView, end_name}
use Rattle.fst_safety.specs.Tasks.{module_of}
use Rattle.fst_safety.specs.Threads.{Thread, FitsIn, FitsEnd, count_of}
use Rattle.fst_safety.proofs.Laws.{count_first, counted_so, asks_for}
use Rattle.fst_records.specs.Records.{Course}
use Rattle.fst_worker.specs.Works.{course_of}
use Rattle.fst_worker.specs.Records.{Pair, histories_of, missing, stands_on, told_course, IsAsClosed}
use Rattle.fst_worker.specs.Configs.{Told}
use Rattle.fst_worker.specs.Laws.{Finishes}
use Rattle.fst_worker.specs.Resumes.{IsTaskOf, Tells, CanTell}
use Rattle.fst_worker.specs.declared.ending.TaskLog.{TaskLog}
use Rattle.fst_worker.specs.Ending.{TellsWaiting, HasEnded, IsToldTo}
use Rattle.fst_worker.proofs.Answering.{tells}
use Rattle.fst_worker.proofs.Catching.{IsHere, all_here, asks_it, finishes}
use Rattle.fst_worker.proofs.Ended.{closed_of}
use Rattle.fst_worker.proofs.Mapped.{mapped_in, mapped_from}

-- ---- ends of one name

-- an end that is there counts
counts_there : (z : EndName) (e : EndView) (es : List EndView) (k : ℕ) → k < length es → slice_index_or es k e ≡ e →
    end_name e ≡ z → 0 < count_of z es
counts_there z e [] k l is named = absurd (omega (arith, l))
counts_there z e (d ∷ es) zero l is named =
    let f = count_first z d es in
    let c = counted_so z d (ap end_name is ∙ named) in
    omega (arith, f, c)
counts_there z e (d ∷ es) (suc k) l is named =
    let f = count_first z d es in
    let c = counts_there z e es k (omega (arith, l)) is named in
    omega (arith, f, c)

-- two ends of one name that stands there once are one end
one_end : (z : EndName) (e f : EndView) (es : List EndView) (j k : ℕ) → count_of z es ≤ 1 → j < length es →
    slice_index_or es j e ≡ e → k < length es → slice_index_or es k f ≡ f →
    end_name e ≡ z → end_name f ≡ z → e ≡ f
one_end z e f [] j k once jl ji kl ki ez fz = absurd (omega (arith, jl))
one_end z e f (d ∷ es) zero zero once jl ji kl ki ez fz = sym ji ∙ ki
one_end z e f (d ∷ es) zero (suc k) once jl ji kl ki ez fz =
    let c = counts_there z f es k (omega (arith, kl)) ki fz in
    let o = counted_so z d (ap end_name ji ∙ ez) in
    let h = count_first z d es in
    absurd (omega (arith, c, o, h, once))
one_end z e f (d ∷ es) (suc j) zero once jl ji kl ki ez fz =
    let c = counts_there z e es j (omega (arith, jl)) ji ez in
    let o = counted_so z d (ap end_name ki ∙ fz) in
    let h = count_first z d es in
    absurd (omega (arith, c, o, h, once))
one_end z e f (d ∷ es) (suc j) (suc k) once jl ji kl ki ez fz =
    let h = count_first z d es in
    one_end z e f es j k (omega (arith, h, once)) (omega (arith, jl)) ji (omega (arith, kl)) ki ez fz

-- ---- a thread of a run that is over

module _ (k : Code) (cs : List Closed) (run : HasEnded k cs) where
  abbrev ks : List ChannelHistory
  ks = histories_of run.pairs

  finish : Finishes (module_of k) run.main run.threads run.pairs
  finish = finishes (module_of k) run.type run.main run.threads run.pairs run.over

  can : CanTell k.module.value ks run.threads
  can = tells k.module.value run.code.derivations run.code.derived run.type run.main run.threads run.pairs run.over

  module _ (x : Thread) (there : Contains run.threads x) where
    fits : FitsIn (module_of k) run.type x
    fits = All-contains (FitsIn (module_of k) run.type) run.threads x run.over.run.fit there

    -- a task of the thread has a next request
    pub has_next : (t : TaskView) (clock : ℕ) → IsTaskOf k.module.value k t clock (course_of x) → HasNext k t
    has_next t clock h =
        let q = asks_for k.module.value run.code.derivations run.code.derived run.type x fits in
        record { source = k.module.value; from = run.code.from; state = x.now.state; is_in = h.is_in; next = (q.0, q.1) }

    -- an end that doesn't wait lacks nothing
    level : (e : EndView) → Contains x.bag e → e.knows.offer ≡ None → missing ks e ≡ None
    level e c =
        All-contains (λ (e : EndView). e.knows.offer ≡ None → missing ks e ≡ None) x.bag e
        (All-contains (λ (x : Thread). All (λ (e : EndView). e.knows.offer ≡ None → missing ks e ≡ None) x.bag) run.threads x
        finish.level there) c

    fits_end : (e : EndView) → Contains x.bag e → FitsEnd (module_of k) x.now e
    fits_end e c = All-contains (FitsEnd (module_of k) x.now) x.bag e fits.ends c

    -- only one end waits
    one_waits : (e f : EndView) (o u : Offer) → Contains x.bag e → Contains x.bag f → e.knows.offer ≡ Some o →
        f.knows.offer ≡ Some u → e ≡ f
    one_waits e f o u ec fc eo fu =
        let one = ((fits_end e ec).waits o eo).asks in
        let two = ((fits_end f fc).waits u fu).asks in
        let both : Some (Put (end_name e) o.event) ≡ Some (Put (end_name f) u.event) = sym one ∙ two in
        let same : end_name f ≡ end_name e = cc both in
        let c = counts_there (end_name e) e x.bag ec.0 ec.1 ec.2 refl in
        let once = (fits.once (end_name e) c).0 in
        one_end (end_name e) e f x.bag ec.0 fc.0 (omega (arith, once)) ec.1 ec.2 fc.1 fc.2 refl same

    -- where no end waits the thread lacks nothing
    pub none_waits : TellsWaiting x.bag None → All (λ (e : EndView). missing ks e ≡ None) x.bag
    none_waits none = λ j d l. level (slice_index_or x.bag j d) (Contains-get_or x.bag j d l) (none j d l)

    -- nor where the one that waits lacks nothing
    all_level : (e : EndView) (o : Offer) → Contains x.bag e → e.knows.offer ≡ Some o → missing ks e ≡ None → All
        (λ (e : EndView). missing ks e ≡ None) x.bag
    all_level e o c eo nothing = λ j d l. by (slice_index_or x.bag j d) (Contains-get_or x.bag j d l)
        (slice_index_or x.bag j d).knows.offer refl
      where
        by : (f : EndView) → Contains x.bag f → (u : Option Offer) → f.knows.offer ≡ u → missing ks f ≡ None
        by f fc None fu = level f fc fu
        by f fc (Some u) fu = subst (λ (f : EndView). missing ks f ≡ None) (one_waits e f o u c fc eo fu) nothing

    -- the channel of an end of its bag is closed
    pub channel_there : (e : EndView) → Contains x.bag e → (c : Closed) × Contains cs c × (c.history.name ≡ e.channel)
    channel_there e c =
        let IsThere = λ (e : EndView). (p : Pair) × Contains run.pairs p × (p.closed.history.name ≡ e.channel) in
        let p = All-contains IsThere x.bag e (All-contains (λ (x : Thread). All IsThere x.bag) run.threads x finish.there there)
        c in
        (p.0.closed, subst (λ l. Contains l p.0.closed) run.closed (mapped_in closed_of run.pairs p.0 p.1), p.2)

    -- closing tells what became of the offer
    as_closed : (e : EndView) (o : Offer) → Contains x.bag e → e.knows.offer ≡ Some o →
        (c : Closed) → Contains cs c → c.history.name ≡ e.channel →
        IsAsClosed ks e o c (stands_on e.knows.side c.offered)
    as_closed e o ec eo c i named =
        let p = mapped_from closed_of run.pairs c (subst (λ l. Contains l c) (sym run.closed) i) in
        let IsSo = λ (x : Thread). (e : EndView) (o : Offer) (p : Pair) → Contains x.bag e → e.knows.offer ≡ Some o →
        Contains run.pairs p → p.closed.history.name ≡ e.channel →
        IsAsClosed ks e o p.closed (stands_on e.knows.side p.closed.offered) in
        subst (λ c. IsAsClosed ks e o c (stands_on e.knows.side c.offered)) p.2
        (All-contains IsSo run.threads x finish.waiting there e o p.0 ec eo p.1 (ap (λ (c : Closed). c.history.name) p.2 ∙ named))

    -- ---- what the thread is told

    -- this is its task with its clock, and its log
    abbrev pub IsItsTask : TaskView → ℕ → TaskLog → Type 0
    IsItsTask t clock l = IsToldTo k ks x t clock l

    -- it stays as it is where nothing lacks
    pub stays_so : (t : TaskView) (clock : ℕ) (l : TaskLog) → IsTaskOf k.module.value k t clock (course_of x) →
        l.path ≡ t.path → l.entries.items ≡ x.log → All (λ (e : EndView). missing ks e ≡ None) x.bag → IsItsTask t clock l
    stays_so t clock l task path entries nothing = record {
      after = course_of x;
      told = inl (record { level = nothing; is = refl });
      task = task;
      log = record { path = path ∙ task.path; entries = entries };
    }

    -- so where its offer stands
    pub stands_so : (t : TaskView) (clock : ℕ) (l : TaskLog) → IsTaskOf k.module.value k t clock (course_of x) →
        l.path ≡ t.path → l.entries.items ≡ x.log →
        (n : EndName) → TellsWaiting x.bag (Some n) → (c : Closed) → Contains cs c → c.history.name ≡ n.channel →
        stands_on n.side c.offered ≡ true → IsItsTask t clock l
    stands_so t clock l task path entries n w c i named stands = by w.0.knows.offer refl w.3
      where
        by : (o : Option Offer) → w.0.knows.offer ≡ o → IsSome w.0.knows.offer → IsItsTask t clock l
        by None q some = let none : false ≡ true = sym (ap is_some q) ∙ some in absurd (cc none)
        by (Some o) q some =
            let a = as_closed w.0 o w.1 q c i (named ∙ ap (λ (z : EndName). z.channel) (sym w.2)) in
            let b : stands_on w.0.knows.side c.offered ≡ true = ap (λ (z : EndName). stands_on z.side c.offered) w.2 ∙ stands in
            stays_so t clock l task path entries (all_level w.0 o w.1 q (subst (IsAsClosed ks w.0 o c) b a))

    -- and where it was taken the thread lacks the last entry
    pub record Lacks (n : EndName) (c : Closed) : Type 0 where
      pub end : EndView
      pub in_bag : Contains x.bag end
      pub entry : Entry
      pub lacks : missing ks end ≡ Some entry
      pub stamp : last_stamp c.history.entries.items ≡ entry.stamp

    pub lacks_so : (n : EndName) → TellsWaiting x.bag (Some n) →
        (c : Closed) → Contains cs c → c.history.name ≡ n.channel → stands_on n.side c.offered ≡ false → Lacks n c
    lacks_so n w c i named stands = by w.0.knows.offer refl w.3
      where
        by : (o : Option Offer) → w.0.knows.offer ≡ o → IsSome w.0.knows.offer → Lacks n c
        by None q some = let none : false ≡ true = sym (ap is_some q) ∙ some in absurd (cc none)
        by (Some o) q some =
            let a = as_closed w.0 o w.1 q c i (named ∙ ap (λ (z : EndName). z.channel) (sym w.2)) in
            let b : stands_on w.0.knows.side c.offered ≡ false = ap (λ (z : EndName). stands_on z.side c.offered) w.2 ∙ stands in
            let d = subst (IsAsClosed ks w.0 o c) b a in
            record { end = w.0; in_bag = w.1; entry = d.0; lacks = d.1.lacks; stamp = d.2 }

    module _ (n : EndName) (c : Closed) (l : Lacks n c) where
      says : Tells k.module.value ks x
      says =
          let IsSo = λ (x : Thread). (e : EndView) (d : Entry) → Contains x.bag e → missing ks e ≡ Some d →
          Tells k.module.value ks x in
          All-contains IsSo run.threads x can.told there l.end l.entry l.in_bag l.lacks

      -- it takes that answer where it has run on
      pub takes_sent : (t v : TaskView) (clock : ℕ) → IsTaskOf k.module.value k t clock (course_of x) → Stays k t v →
          IsAtRest k v →
          Takes k v Sent
      takes_sent t v clock task stay rests = record {
        rests = rests;
        source = k.module.value;
        from = run.code.from;
        state = x.now.state;
        is_in = stay.states k.module.value x.now.state task.is_in;
        after = says.state;
        told = says.leads;
        asks = says.alive;
        few = λ e. absurd (cc e);
      }

      abbrev y : Course
      y = told_course (module_of k) x l.end l.entry

      is_told : Told (module_of k) ks x y
      is_told = record {
        end = l.end;
        there = l.in_bag;
        entry = l.entry;
        lacks = l.lacks;
        state = says.state;
        leads = says.leads;
        is = refl;
      }

      -- what it asks for is to send what it lacks
      asks_so : (t : TaskView) (clock : ℕ) (r : Request) → IsTaskOf k.module.value k t clock (course_of x) → AsksFor k t r →
          r ≡ Put (end_name l.end) l.entry.event
      asks_so t clock r task asks =
          let IsThere = IsHere (module_of k) run.type run.main run.threads run.pairs run.over in
          let here = All-contains IsThere run.threads x
          (all_here (module_of k) run.type run.main run.threads run.pairs run.over) there in
          let is = asks_it (module_of k) run.type run.main run.threads run.pairs run.over x here l.end l.entry l.in_bag l.lacks in
          same_Some r (Put (end_name l.end) l.entry.event)
          (sym (asks k.module.value x.now.state task.is_in (λ e. none-some _ (sym (ap asked e) ∙ is))) ∙ is)

      -- and then it is told
      pub told_so : (t v u : TaskView) (clock : ℕ) → IsTaskOf k.module.value k t clock (course_of x) → Stays k t v →
          GoesOn k v Sent u → (now : ℕ) → now ≡ last_stamp c.history.entries.items →
          (r : Request) → AsksFor k t r → (g : LogEntry) → g ≡ record { asked = r; answer = Sent; stamp = now } →
          (log : TaskLog) → log.path ≡ t.path → log.entries.items ≡ x.log ++ g ∷ [] → IsItsTask u now log
      told_so t v u clock task stay goes now is r asks g gained log path entries =
          let on : IsTaskOf k.module.value k v clock (course_of x) = record {
            path = stay.path ∙ task.path;
            is_in = stay.states k.module.value x.now.state task.is_in;
            forked = stay.forked ∙ task.forked;
            time = task.time;
          } in
          let after = says.goes_on k v u clock run.code.from on goes y is_told in
          let same = asks_so t clock r task asks in
          record {
            after = y;
            told = inr is_told;
            task = record { path = after.path; is_in = after.is_in; forked = after.forked; time = is ∙ l.stamp };
            log = record {
              path = path ∙ task.path;
              entries = entries
                  ∙ ap (λ (g : LogEntry). x.log ++ g ∷ [])
                  (gained ∙ (λ i. record { asked = same i; answer = Sent; stamp = (is ∙ l.stamp) i }));
            };
          }
