-- What a share has done, and what all shares have done together.
use Rattle.std.proofs.Common.{◌≡◌, ◌∙◌, ◌⊎◌, inl, inr, ℕ, zero, suc, ◌+◌, ◌<◌, ◌≤◌, true, false, List, [], ◌∷◌, ◌++◌, length, get_or, take, refl, sym, ap, subst, arith}
use Rattle.std.specs.Prelude.{All, sum_by}
use Rattle.std.proofs.lemmas.Bool.{cases_lt}
use Rattle.std.proofs.lemmas.List.Elements.{All-nil, All-cons}
use Rattle.fst_types.specs.Tree.{Tree}
use Rattle.fst_machine.specs.declared.code.Code.{Code}
use Rattle.fst_runs.specs.Configs.{Path}
use Rattle.fst_runs.specs.declared.log.LogEntry.{LogEntry}
use Rattle.fst_safety.specs.declared.tasks.TypedTask.{TypedTask}
use Rattle.fst_safety.specs.Tasks.{Grows, IsTypedCode, Keeps, module_of, offers, work}
use Rattle.fst_safety.specs.Threads.{Thread, FitsIn}
use Rattle.fst_safety.specs.Turns.{of_ends}
use Rattle.fst_worker.specs.declared.shares.Share.{Share}
use Rattle.fst_worker.specs.Works.{Went}
use Rattle.fst_worker.specs.Shares.{AreCounted, AreCrews, AreKept, AreLent, AreTold, CanMove, Crew, GoOn, HasAsked, HasRun, HaveRun, IsCrew, IsIdle, RunsAll, all_of, all_threads, counts, entries_in, offers_in, threads_of, work_of}
use Rattle.fst_worker.specs.Passes.{CanRun, Exceeds, HasStopped, HasWorked, Passes, Works}
use Rattle.fst_worker.proofs.Chains.{went_none, went_both}
use Rattle.fst_worker.proofs.Crews.{All-first, All-behind, AreManned, crew_kept, crews_kept, crews_of, kept_all, kept_length, kept_sum}
use Rattle.fst_worker.proofs.Goes.{clock_there, kept_clock}
use Rattle.fst_worker.proofs.Passing.{crew_same}
use Rattle.fst_records.proofs.Laws.{sum_both}

-- ---- one share

-- the task at a place
task_at : (ts : List TypedTask) (i : ℕ) → i < length ts → TypedTask
task_at [] i l = absurd (omega (arith, l))
task_at (t ∷ ts) zero l = t
task_at (t ∷ ts) (suc i) l = task_at ts i (omega (arith, l))

-- a share that begins anew and passes over its tasks has worked
pub works : (k : Code) (steps : ℕ) (s t u : Share) → t.tasks.items ≡ s.tasks.items → t.forked.items ≡ s.forked.items →
    t.ended.items ≡ s.ended.items → t.events ≡ s.events →
    t.moved ≡ false → Passes k steps t u → Works k steps s u
works k steps s t u tasks forked ended events calm p a b code is fit =
    let g = p a b code (crew_same k s t b tasks forked ended is) fit in
    record {
      crew = g.crew;
      is = g.is;
      went = g.ran.went;
      run = record {
        own = g.ran.own;
        idle = g.ran.idle;
        over = g.ran.over;
        counted = let e = g.ran.counted in omega (arith, e, events);
        done = g.ran.done calm;
        still = g.ran.still;
        tried = tried g.crew g.is g.so;
      };
    }
  where
    tried : (c : Crew) → IsCrew k u c → HasStopped k steps u b c → u.refused ≡ false → u.events ≤ steps → All
        (λ (t : TypedTask). t.clock ≤ steps) u.tasks.items →
        All (HasAsked k (threads_of b) (threads_of c)) c.tasks
    tried c is (inl all) calm few low = all
    tried c is (inr (j, l, x)) calm few low = λ i e m. absurd (never c is j l calm few low e (x e))
      where
        never : (c : Crew) → IsCrew k u c → (j : ℕ) → j < length c.tasks → u.refused ≡ false → u.events ≤ steps → All
            (λ (t : TypedTask). t.clock ≤ steps) u.tasks.items →
            (e : Thread) → Exceeds steps u (get_or c.tasks j e) → ⊥
        never c is j l calm few low e (inl h) = let q = sym h ∙ calm in cc q
        never c is j l calm few low e (inr (inl h)) = omega (arith, h, few)
        never c is j l calm few low e (inr (inr h)) =
            let n = kept_length k u.tasks.items c.tasks is.tasks in
            let there : j < length u.tasks.items = omega (arith, l, n) in
            let t = task_at u.tasks.items j there in
            let a = low j t there in
            let b = clock_there u.tasks.items j t there in
            let d = kept_clock k u.tasks.items c.tasks j e is.tasks there in
            omega (arith, h, a, b, d)

-- ---- all shares

module _ (k : Code) where
  -- the crew of a share
  pub crew_at : (ss : List Share) (cs : List Crew) (i : ℕ) (d : Share) (e : Crew) → AreCrews k ss cs → i < length ss →
      IsCrew k (get_or ss i d) (get_or cs i e)
  crew_at [] cs i d e h l = absurd (omega (arith, l))
  crew_at (s ∷ ss) [] i d e h l = absurd h
  crew_at (s ∷ ss) (c ∷ cs) zero d e h l = h.0
  crew_at (s ∷ ss) (c ∷ cs) (suc i) d e h l = crew_at ss cs i d e h.1 (omega (arith, l))

  can_run : (a : Tree) (ss : List Share) (cs : List Crew) → IsTypedCode k a → AreCrews k ss cs →
      All (FitsIn (module_of k) a) (all_threads cs) → All (CanRun k) ss
  can_run a [] cs code h fit = All-nil (CanRun k)
  can_run a (s ∷ ss) [] code h fit = absurd h
  can_run a (s ∷ ss) (c ∷ cs) code h fit = All-cons (CanRun k) s ss
      (record {
        type = a;
        code = code;
        crew = c;
        is = h.0;
        fit =
            All-first (FitsIn (module_of k) a) (threads_of c) (all_threads cs) fit;
      })
      (can_run a ss cs code h.1 (All-behind (FitsIn (module_of k) a) (threads_of c) (all_threads cs) fit))

  -- each share can run where the tasks of all can
  pub each_can : (ss : List Share) → CanMove k ss → All (CanRun k) ss
  each_can ss m =
      let r = crews_of k ss m.threads m.kept in
      can_run m.type ss r.crews m.code r.are (subst (All (FitsIn (module_of k) m.type)) (sym r.same) m.fit)

  module _ (a : Tree) (steps : ℕ) (code : IsTypedCode k a) where
    both : (s u : Share) (b : Crew) (ss us : List Share) (bs : List Crew) → HasWorked k a steps s u b →
        HaveRun k a steps ss us bs → HaveRun k a steps (s ∷ ss) (u ∷ us) (b ∷ bs)
    both s u b ss us bs w r = record {
      after = w.crew ∷ r.after;
      are = (w.is, r.are);
      went = went_both (module_of k) a (threads_of b) (threads_of w.crew) (all_threads bs) (all_threads r.after) w.went r.went;
      each = at;
    }
      where
        at : (i : ℕ) (d : Share) (e : Crew) → i < length (s ∷ ss) →
            HasRun k steps (get_or (s ∷ ss) i d) (get_or (u ∷ us) i d) (get_or (b ∷ bs) i e) (get_or (w.crew ∷ r.after) i e)
        at zero d e l = w.run
        at (suc i) d e l = r.each i d e (omega (arith, l))

    done : (ss us : List Share) (bs : List Crew) → AreCrews k ss bs → All (FitsIn (module_of k) a) (all_threads bs) →
        length us ≡ length ss →
        ((i : ℕ) (d : Share) → i < length ss → Works k steps (get_or ss i d) (get_or us i d)) → HaveRun k a steps ss us bs
    done [] [] [] h fit e each = record {
      after = [];
      are = tt;
      went = went_none (module_of k) a [];
      each =
          λ i d e l. absurd (omega (arith, l));
    }
    done [] [] (b ∷ bs) h fit e each = absurd h
    done [] (u ∷ us) bs h fit e each = absurd (omega (arith, e))
    done (s ∷ ss) [] bs h fit e each = absurd (omega (arith, e))
    done (s ∷ ss) (u ∷ us) [] h fit e each = absurd h
    done (s ∷ ss) (u ∷ us) (b ∷ bs) h fit e each =
        both s u b ss us bs (each 0 s (omega arith) a b code h.0
        (All-first (FitsIn (module_of k) a) (threads_of b) (all_threads bs) fit))
        (done ss us bs h.1 (All-behind (FitsIn (module_of k) a) (threads_of b) (all_threads bs) fit) (omega (arith, e))
        (λ i d l. each (suc i) d (omega (arith, l))))

  -- what each share did by itself is what they did together
  pub all_run : (steps : ℕ) (ss us : List Share) → length us ≡ length ss →
      ((i : ℕ) (d : Share) → i < length ss → Works k steps (get_or ss i d) (get_or us i d)) → RunsAll k steps ss us
  all_run steps ss us e each a bs code are fit = done a steps code ss us bs are fit e each

  pub go_on : (steps : ℕ) (ss us : List Share) → RunsAll k steps ss us → GoOn k ss us
  go_on steps ss us runs a xs code kept fit =
      let m = crews_of k ss xs kept in
      let r = runs a m.crews code m.are (subst (All (FitsIn (module_of k) a)) (sym m.same) fit) in (
        all_threads r.after,
        crews_kept k us r.after r.are,
        subst (λ (l : List Thread). Went (module_of k) a l (all_threads r.after)) m.same r.went,
      )

  -- ---- told by the tasks

  module _ (steps : ℕ) (ss us : List Share) (len : length us ≡ length ss) (can : CanMove k ss)
      (runs : RunsAll k steps ss us) where
    manned : AreManned k ss can.threads
    manned = crews_of k ss can.threads can.kept

    run : HaveRun k can.type steps ss us manned.crews
    run = runs can.type manned.crews can.code manned.are (subst (All (FitsIn (module_of k) can.type)) (sym manned.same) can.fit)

    crew_before : (i : ℕ) (d : Share) (e : Crew) → i < length ss → IsCrew k (get_or ss i d) (get_or manned.crews i e)
    crew_before i d e l = crew_at ss manned.crews i d e manned.are l

    crew_after : (i : ℕ) (d : Share) (e : Crew) → i < length ss → IsCrew k (get_or us i d) (get_or run.after i e)
    crew_after i d e l = crew_at us run.after i d e run.are (omega (arith, l, len))

    summed : (f : TypedTask → ℕ) (g : Thread → ℕ) → ((t : TypedTask) (x : Thread) → Keeps k t x → f t ≡ g x) →
        (s : Share) (c : Crew) → IsCrew k s c → sum_by f (all_of s) ≡ sum_by g (threads_of c)
    summed f g e s c is = kept_sum k f g e (all_of s) (threads_of c) (crew_kept k s c is)

    nobody : Crew
    nobody = record { tasks = []; forked = []; ended = [] }

    pub are_counted : AreCounted ss us
    are_counted i d l =
        let e = (run.each i d nobody l).counted in
        let f = λ (t : TypedTask). counts t.log.items in
        let g = λ (x : Thread). counts x.log in
        let p = summed f g (λ t x h. ap counts h.log) (get_or ss i d) (get_or manned.crews i nobody) (crew_before i d nobody l) in
        let q = summed f g (λ t x h. ap counts h.log) (get_or us i d) (get_or run.after i nobody) (crew_after i d nobody l) in
        omega (arith, e, p, q)

    pub are_told : AreTold ss us
    are_told i d l = record { moved = by_more moves.done; still = same_logs; idle = as_many moves.done }
      where
        s : Share
        s = get_or ss i d

        u : Share
        u = get_or us i d

        b : Crew
        b = get_or manned.crews i nobody

        c : Crew
        c = get_or run.after i nobody

        moves : HasRun k steps s u b c
        moves = run.each i d nobody l

        before : IsCrew k s b
        before = crew_before i d nobody l

        now : IsCrew k u c
        now = crew_after i d nobody l

        -- what was done is told by entries and offers
        parts : (t : Share) (e : Crew) → IsCrew k t e → work_of (threads_of e) ≡ offers_in t + (entries_in t + entries_in t)
        parts t e is =
            let o = summed (λ (t : TypedTask). sum_by offers t.bag.items + sum_by offers t.retired.items) (of_ends offers)
            (λ t x h. let p = ap (sum_by offers) h.bag in let q = ap (sum_by offers) h.retired in omega (arith, p, q)) t e is in
            let n = summed (λ (t : TypedTask). length t.log.items) (λ (x : Thread). length x.log)
            (λ t x h. ap length h.log) t e is in
            let a = sum_both work (of_ends offers) (λ (x : Thread). length x.log + length x.log) (λ x. refl) (threads_of e) in
            let m = sum_both (λ (x : Thread). length x.log + length x.log) (λ (x : Thread). length x.log)
            (λ (x : Thread). length x.log) (λ x. refl) (threads_of e) in
            omega (arith, o, n, a, m)

        by_more : Grows u.moved (work_of (threads_of b)) (work_of (threads_of c)) → u.moved ≡ true →
            (entries_in s < entries_in u) ⊎ (offers_in s < offers_in u)
        by_more g m = either (cases_lt (entries_in s) (entries_in u))
          where
            more : work_of (threads_of b) < work_of (threads_of c)
            more = subst (λ m. Grows m (work_of (threads_of b)) (work_of (threads_of c))) m g

            either : (entries_in s < entries_in u) ⊎ (entries_in u ≤ entries_in s) → (entries_in s < entries_in u) ⊎
                (offers_in s < offers_in u)
            either (inl h) = inl h
            either (inr h) = let p = parts s b before in let q = parts u c now in let w = more in inr (omega (arith, h, p, q, w))

        same_logs : u.moved ≡ false → (w : Path → List LogEntry → ℕ) →
            sum_by (λ (t : TypedTask). w t.task.path t.log.items) (all_of u) ≡ sum_by
            (λ (t : TypedTask). w t.task.path t.log.items) (all_of s)
        same_logs m w =
            let f = λ (t : TypedTask). w t.task.path t.log.items in
            let g = λ (x : Thread). w x.path x.log in
            let same = λ (t : TypedTask) (x : Thread) (h : Keeps k t x). ap (λ p. w p t.log.items) h.path ∙ ap (w x.path) h.log in
            summed f g same u c now ∙ moves.still m w ∙ sym (summed f g same s b before)

        as_many : Grows u.moved (work_of (threads_of b)) (work_of (threads_of c)) → u.moved ≡ false → offers_in u ≡ offers_in s
        as_many g m =
            let e : work_of (threads_of c) ≡ work_of (threads_of b) = subst
            (λ m. Grows m (work_of (threads_of b)) (work_of (threads_of c))) m g in
            let n : entries_in u ≡ entries_in s = same_logs m (λ p log. length log) in
            let p = parts s b before in
            let q = parts u c now in
            omega (arith, e, n, p, q)

    pub are_lent : All (λ (s : Share). s.forked.items ≡ []) ss → AreLent ss us
    are_lent none = record {
      length_is = len;
      own = λ i d l w.
          let f = λ (t : TypedTask). w t.task.path in
          let g = λ (x : Thread). w x.path in
          let part = λ (ts : List TypedTask) (xs : List Thread) (h : AreKept k ts xs). kept_sum k f g
          (λ t x h. ap w h.path) ts xs h in
          let s = crew_before i d nobody l in
          let u = crew_after i d nobody l in
          let e = (run.each i d nobody l).own w in
          let s1 = part (get_or ss i d).tasks.items (get_or manned.crews i nobody).tasks s.tasks in
          let s2 = part (get_or ss i d).ended.items (get_or manned.crews i nobody).ended s.ended in
          let u1 = part (get_or us i d).tasks.items (get_or run.after i nobody).tasks u.tasks in
          let u2 = part (get_or us i d).ended.items (get_or run.after i nobody).ended u.ended in
          omega (arith, e, s1, s2, u1, u2);
      idle = λ i d l.
          let m : i < length ss = omega (arith, l, len) in
          kept_all k (λ (t : TypedTask). t.log.items ≡ []) IsIdle
          (λ t x h e. h.log ∙ e) (get_or us i d).forked.items (get_or run.after i nobody).forked
          (crew_after i d nobody m).forked
          ((run.each i d nobody m).idle (no_threads (get_or ss i d).forked.items (get_or manned.crews i nobody).forked
          (none i d m) (crew_before i d nobody m).forked));
    }
      where
        no_threads : (ts : List TypedTask) (xs : List Thread) → ts ≡ [] → AreKept k ts xs → All IsIdle xs
        no_threads ts [] e h = All-nil IsIdle
        no_threads ts (x ∷ xs) e h = absurd (subst (λ (l : List TypedTask). AreKept k l (x ∷ xs)) e h)

-- a whole slice that is written back
pub written_back : (n : ℕ) (xs ys : List Share) → n ≡ length xs → take n (xs ++ ys) ≡ xs
written_back zero [] ys e = refl
written_back (suc n) [] ys e = absurd (omega (arith, e))
written_back zero (x ∷ xs) ys e = absurd (omega (arith, e))
written_back (suc n) (x ∷ xs) ys e = ap (λ (l : List Share). x ∷ l) (written_back n xs ys (omega (arith, e)))
