-- The turns of one task, one after the other, and passes over all tasks of a share.
use Rattle.std.proofs.Common.{◌≡◌, ◌∙◌, ◌⊎◌, inl, inr, ℕ, zero, suc, ◌+◌, ◌<◌, ◌≤◌, Bool, true, false, Ok, Err, List, [], ◌∷◌, ◌++◌, length, get_or, set, take, refl, sym, ap, subst, arith, append_assoc}
use Rattle.std.specs.Prelude.{All, IsPermutation, sum_by, swap}
use Rattle.std.specs.declared.alloc.AllocError.{AllocError}
use Rattle.std.proofs.lemmas.List.{append-nil, get_or-set_same, get_or-set_other, get_or-take, set-set, length-set}
use Rattle.std.proofs.lemmas.List.Edits.{Swapped, swapped_from_swap}
use Rattle.std.proofs.lemmas.List.Elements.{All-push}
use Rattle.std.proofs.lemmas.List.Sorted.{IsPermutation-append_left, IsPermutation-swap, IsPermutation-to_front, IsPermutation-sym, IsPermutation-trans, sum_by-IsPermutation}
use Rattle.std.proofs.lemmas.List.Sums.{sum_by-append}
use Rattle.fst_types.specs.Tree.{Tree}
use Rattle.fst_machine.specs.declared.code.Code.{Code}
use Rattle.fst_safety.specs.declared.tasks.TypedTask.{TypedTask}
use Rattle.fst_safety.specs.Tasks.{Grows, module_of, tries_at, work}
use Rattle.fst_safety.specs.Threads.{Thread}
use Rattle.fst_safety.specs.Turns.{of_ends}
use Rattle.fst_worker.specs.declared.shares.Move.TheVariants as move
use Rattle.fst_worker.specs.declared.shares.Share.{Share}
use Rattle.fst_worker.specs.declared.shares.Stop.TheVariants.{Waits, Ends, Halts}
use Rattle.fst_worker.specs.Shares.{AreKept, Crew, HasAsked, IsCrew, IsIdle, IsOver, counts, threads_of, work_of}
use Rattle.fst_worker.specs.Passes.{Exceeds, FirstStop, HasPassed, HasSameMarks, HasStopped, IsAt, IsPutBefore, Passes, PassesTo, Ran, RetiresTo, Runs, StepsAt, StopsAt, clock_at}
use Rattle.fst_worker.proofs.Chains.{went_moved}
use Rattle.fst_worker.proofs.Crews.{kept_at, kept_length, kept_split, kept_append, kept_swap}
use Rattle.fst_worker.proofs.Steps.{set_there}
use Rattle.fst_worker.proofs.Goes.{asked_later, asked_earlier, kept_clock, ran_fits, ran_none, ran_then}

-- ---- shares that are the same but for room

pub crew_same : (k : Code) (s u : Share) (c : Crew) → u.tasks.items ≡ s.tasks.items → u.forked.items ≡ s.forked.items →
    u.ended.items ≡ s.ended.items → IsCrew k s c → IsCrew k u c
crew_same k s u c tasks forked ended h = record {
  tasks = subst (λ (ts : List TypedTask). AreKept k ts c.tasks) (sym tasks) h.tasks;
  forked = subst (λ (ts : List TypedTask). AreKept k ts c.forked) (sym forked) h.forked;
  ended = subst (λ (ts : List TypedTask). AreKept k ts c.ended) (sym ended) h.ended;
}

pub ran_marked : (k : Code) (a : Tree) (s u w : Share) (b c : Crew) → w.events ≡ u.events → w.moved ≡ u.moved → Ran k a s u b c →
    Ran k a s w b c
ran_marked k a s u w b c events moved r = record {
  went = r.went;
  own = r.own;
  idle = r.idle;
  over = r.over;
  counted = let e = r.counted in omega (arith, e, events);
  moved = λ m. r.moved (sym moved ∙ m);
  work = r.work;
  done = λ z. subst (λ m. Grows m (work_of (threads_of b)) (work_of (threads_of c))) (sym moved) (r.done z);
  still = λ m f. r.still (sym moved ∙ m) f;
  tries = r.tries;
}

-- threads that change places have made no turn
pub ran_dealt : (k : Code) (a : Tree) (s u : Share) (b c : Crew) → IsPermutation (threads_of b) (threads_of c) →
    c.forked ≡ b.forked → (All (IsOver k) b.ended → All (IsOver k) c.ended) →
    u.events ≡ s.events → u.moved ≡ s.moved → Ran k a s u b c
ran_dealt k a s u b c p forked over events moved = record {
  went = went_moved (module_of k) a (threads_of b) (threads_of c) p;
  own = λ w.
      let f = λ (x : Thread). w x.path in
      let all = sum_by-IsPermutation f (threads_of b) (threads_of c) p in
      let b1 = sum_by-append f b.tasks (b.forked ++ b.ended) in
      let b2 = sum_by-append f b.forked b.ended in
      let c1 = sum_by-append f c.tasks (c.forked ++ c.ended) in
      let c2 = sum_by-append f c.forked c.ended in
      let same = ap (sum_by f) forked in
      omega (arith, all, b1, b2, c1, c2, same);
  idle = λ all. subst (All IsIdle) (sym forked) all;
  over = over;
  counted = let e = sum_by-IsPermutation (λ (x : Thread). counts x.log) (threads_of b) (threads_of c) p in
      omega (arith, e, events);
  moved = λ m. sym moved ∙ m;
  work = let e = sum_by-IsPermutation work (threads_of b) (threads_of c) p in omega (arith, e);
  done = λ z. subst (λ m. Grows m (work_of (threads_of b)) (work_of (threads_of c))) (sym (moved ∙ z))
      (sum_by-IsPermutation work (threads_of b) (threads_of c) p);
  still = λ m f. sum_by-IsPermutation (λ (x : Thread). f x.path x.log) (threads_of b) (threads_of c) p;
  tries = λ z. let e = sum_by-IsPermutation (of_ends (tries_at z)) (threads_of b) (threads_of c) p in omega (arith, e);
}

-- ---- one after the other

pub runs_then : (k : Code) (P Q R : Crew → Crew → Type 0) (s t u : Share) →
    ((a : Tree) (b c d : Crew) → IsCrew k s b → IsCrew k t c → IsCrew k u d → Ran k a s t b c → Ran k a t u c d → P b c → Q c d →
    R b d) → Runs k P s t → Runs k Q t u → Runs k R s u
runs_then k P Q R s t u f p q a b code is fit =
    let g = p a b code is fit in
    let h = q a g.crew code g.is (ran_fits k a s t b g.crew g.ran fit) in
    record {
      crew = h.crew;
      is = h.is;
      ran = ran_then k a s t u b g.crew h.crew g.ran h.ran;
      so = f a b g.crew h.crew is g.is h.is g.ran h.ran g.so h.so;
    }

-- what holds of each crew
pub runs_so : (k : Code) (P Q : Crew → Crew → Type 0) (s u : Share) →
    ((b c : Crew) → IsCrew k s b → IsCrew k u c → P b c → Q b c) → Runs k P s u → Runs k Q s u
runs_so k P Q s u f p a b code is fit =
    let g = p a b code is fit in
    record { crew = g.crew; is = g.is; ran = g.ran; so = f b g.crew is g.is g.so }

-- ---- one task

-- some turns at the place i
abbrev pub RunsAt : Code → ℕ → Share → Share → Type 0
RunsAt k i s u = Runs k (λ b c. (y : Thread) × IsAt i b c y) s u

pub at_then : (i : ℕ) (b c d : Crew) (y z : Thread) → IsAt i b c y → IsAt i c d z → IsAt i b d z
at_then i b c d y z p q = record {
  tasks = q.tasks ∙ ap (λ (l : List Thread). set l i z) p.tasks ∙ set-set b.tasks i y z;
  new = p.new ++ q.new;
  forked = q.forked ∙ ap (λ (l : List Thread). l ++ q.new) p.forked ∙ append_assoc b.forked p.new q.new;
  ended = q.ended ∙ p.ended;
}

pub at_none : (k : Code) (i : ℕ) (s : Share) → i < length s.tasks.items → RunsAt k i s s
at_none k i s l a b code is fit =
    let p = kept_at k s.tasks.items b.tasks i is.tasks l in
    record {
      crew = b;
      is = is;
      ran = ran_none k a s b;
      so = (
        p.thread,
        record {
          tasks = sym (set_there b.tasks i p.thread p.is);
          new = [];
          forked = sym (append-nil b.forked);
          ended = refl;
        },
      );
    }

module _ (k : Code) (i : ℕ) (s t u : Share) (before : RunsAt k i s t) where
  pub at_gained : (m : Bool) → StepsAt k i (Ok (move.Gained m)) t u → RunsAt k i s u
  at_gained m h = runs_then k _ _ (λ b c. (y : Thread) × IsAt i b c y) s t u
      (λ a b c d ib ic id r q y z. (z.0, at_then i b c d y.0 z.0 y.1 z.1)) before h

  pub at_offered : (steps : ℕ) → StepsAt k i (Ok move.Offered) t u → StopsAt k i steps Waits s u
  at_offered steps h = runs_then k _ _ (λ b c. (y : Thread) × IsAt i b c y × HasAsked k (threads_of b) (threads_of c) y) s t u
      (λ a b c d ib ic id r q y z. (z.0, at_then i b c d y.0 z.0 y.1 z.1, asked_earlier k a s t (threads_of d) b c z.0 r z.2))
      before h

  pub at_left : (steps : ℕ) → StepsAt k i (Ok move.Left) t u → StopsAt k i steps Waits s u
  at_left steps h = runs_then k _ _ (λ b c. (y : Thread) × IsAt i b c y × HasAsked k (threads_of b) (threads_of c) y) s t u
      (λ a b c d ib ic id r q y z. (z.0, at_then i b c d y.0 z.0 y.1 z.1, asked_earlier k a s t (threads_of d) b c z.0 r z.2))
      before h

  pub at_over : (steps : ℕ) → StepsAt k i (Ok move.Over) t u → StopsAt k i steps Ends s u
  at_over steps h = runs_then k _ _ (λ b c. (y : Thread) × IsAt i b c y × IsOver k y) s t u
      (λ a b c d ib ic id r q y z. (z.0, at_then i b c d y.0 z.0 y.1 z.1, z.2)) before h

  pub at_wanting : (steps : ℕ) (e : AllocError) → StepsAt k i (Err e) t u →
      StopsAt k i steps Halts s (record u { refused = true })
  at_wanting steps e h a b code is fit =
      let g = runs_then k _ _ (λ b c. (y : Thread) × IsAt i b c y) s t u
      (λ a b c d ib ic id r q y z. (z.0, at_then i b c d y.0 z.0 y.1 z.1)) before h a b code is fit in
      record {
        crew = g.crew;
        is = crew_same k u (record u { refused = true }) g.crew refl refl refl g.is;
        ran = ran_marked k a s u (record u { refused = true }) b g.crew refl refl g.ran;
        so = (g.so.0, g.so.1, inl refl);
      }

module _ (k : Code) (i : ℕ) (s u : Share) (before : RunsAt k i s u) where
  pub at_events : (steps : ℕ) → steps < u.events → StopsAt k i steps Halts s u
  at_events steps l = runs_so k _ (λ b c. (y : Thread) × IsAt i b c y × Exceeds steps u y) s u
      (λ b c ib ic y. (y.0, y.1, inr (inl l))) before

  pub at_clock : (steps : ℕ) → i < length s.tasks.items → steps < clock_at u.tasks.items i → StopsAt k i steps Halts s u
  at_clock steps within l = runs_so k _ (λ b c. (y : Thread) × IsAt i b c y × Exceeds steps u y) s u
      (λ b c ib ic y.
      let at = y.1 in
      let n = kept_length k s.tasks.items b.tasks ib.tasks in
      let n2 = kept_length k u.tasks.items c.tasks ic.tasks in
      let n3 = ap length at.tasks ∙ length-set b.tasks i y.0 in
      let e = kept_clock k u.tasks.items c.tasks i y.0 ic.tasks (omega (arith, within, n, n2, n3))
      ∙ ap (λ (xs : List Thread). (get_or xs i y.0).now.clock) at.tasks
      ∙ ap (λ (x : Thread). x.now.clock) (get_or-set_same b.tasks i y.0 y.0 (omega (arith, within, n))) in
      (y.0, y.1, inr (inr (omega (arith, l, e))))) before

-- ---- a pass

lt_or_same : (j i : ℕ) → j < i + 1 → (j < i) ⊎ (j ≡ i)
lt_or_same zero zero h = inr refl
lt_or_same zero (suc i) h = inl (omega arith)
lt_or_same (suc j) zero h = absurd (omega (arith, h))
lt_or_same (suc j) (suc i) h = more (lt_or_same j i (omega (arith, h)))
  where
    more : (j < i) ⊎ (j ≡ i) → (suc j < suc i) ⊎ (suc j ≡ suc i)
    more (inl l) = inl (omega (arith, l))
    more (inr e) = inr (ap suc e)

-- the other threads are as they were
others_at : (i : ℕ) (c d : Crew) (y : Thread) → IsAt i c d y → (j : ℕ) (e : Thread) →
    (j ≡ i → ⊥) → get_or d.tasks j e ≡ get_or c.tasks j e
others_at i c d y at j e differ = ap (λ (l : List Thread). get_or l j e) at.tasks ∙ get_or-set_other c.tasks i j y e differ

there_at : (i : ℕ) (c d : Crew) (y : Thread) → IsAt i c d y → i < length c.tasks → (e : Thread) → get_or d.tasks i e ≡ y
there_at i c d y at l e = ap (λ (l : List Thread). get_or l i e) at.tasks ∙ get_or-set_same c.tasks i y e l

exceeds_marked : (steps : ℕ) (u v : Share) (y : Thread) → HasSameMarks u v → Exceeds steps u y → Exceeds steps v y
exceeds_marked steps u v y m (inl h) = inl (m.2 ∙ h)
exceeds_marked steps u v y m (inr (inl h)) = let e = m.0 in inr (inl (omega (arith, h, e)))
exceeds_marked steps u v y m (inr (inr h)) = inr (inr h)

-- what is known before the place i, and this of the thread there
abbrev Middle : Code → ℕ → ℕ → ℕ → (List Thread → List Thread → Thread → Type 0) → Share → Share → Type 0
Middle k steps kept i P s u = Runs k (λ b c. HasPassed k steps kept i false u b c ×
    ((e : Thread) → P (threads_of b) (threads_of c) (get_or c.tasks i e))) s u

module _ (k : Code) (steps kept i : ℕ) (s t u : Share) (within : i < length t.tasks.items) (le : kept ≤ i)
    (before : PassesTo k steps kept i false s t) where
  passed_at : (a : Tree) (b c d : Crew) (y : Thread) → IsAt i c d y → Ran k a t u c d → HasPassed k steps kept i false t b c →
      HasPassed k steps kept i false u b d
  passed_at a b c d y at r h = record {
    first = λ j e l.
        let is = others_at i c d y at j e (λ q. absurd (omega (arith, q, l, le))) in
        subst (HasAsked k (threads_of b) (threads_of d)) (sym is)
        (asked_later k a t u (threads_of b) c d (get_or c.tasks j e) r (h.first j e l));
    over = λ j e lo hi.
        let is = others_at i c d y at j e (λ q. absurd (omega (arith, q, hi))) in
        subst (IsOver k) (sym is) (h.over j e lo hi);
  }

  here_of : (c : Crew) → IsCrew k t c → i < length c.tasks
  here_of c ic = let n = kept_length k t.tasks.items c.tasks ic.tasks in omega (arith, within, n)

  middle_waits : StopsAt k i steps Waits t u → Middle k steps kept i (λ xs ys x. HasAsked k xs ys x) s u
  middle_waits h = runs_then k _ _ (λ b c. HasPassed k steps kept i false u b c ×
      ((e : Thread) → HasAsked k (threads_of b) (threads_of c) (get_or c.tasks i e))) s t u
      (λ a b c d ib ic id r q p z. (
        passed_at a b c d z.0 z.1 q p,
        λ e. subst (HasAsked k (threads_of b) (threads_of d)) (sym (there_at i c d z.0 z.1 (here_of c ic) e))
            (asked_earlier k a s t (threads_of d) b c z.0 r z.2),
      )) before h

  middle_halts : StopsAt k i steps Halts t u → Middle k steps kept i (λ xs ys x. Exceeds steps u x) s u
  middle_halts h = runs_then k _ _ (λ b c. HasPassed k steps kept i false u b c ×
      ((e : Thread) → Exceeds steps u (get_or c.tasks i e))) s t u
      (λ a b c d ib ic id r q p z. (
        passed_at a b c d z.0 z.1 q p,
        λ e. subst (Exceeds steps u) (sym (there_at i c d z.0 z.1 (here_of c ic) e)) z.2,
      )) before h

  pub visit_ends : StopsAt k i steps Ends t u → PassesTo k steps kept (i + 1) false s u
  visit_ends h = runs_then k _ _ (HasPassed k steps kept (i + 1) false u) s t u
      (λ a b c d ib ic id r q p z.
      let m = passed_at a b c d z.0 z.1 q p in
      record { first = m.first; over = λ j e lo hi. over_at b c d z.0 z.1 ic z.2 m j e lo (lt_or_same j i hi) }) before h
    where
      over_at : (b c d : Crew) (y : Thread) → IsAt i c d y → IsCrew k t c → IsOver k y → HasPassed k steps kept i false u b d →
          (j : ℕ) (e : Thread) → kept ≤ j → (j < i) ⊎ (j ≡ i) →
          IsOver k (get_or d.tasks j e)
      over_at b c d y at ic o m j e lo (inl l) = m.over j e lo l
      over_at b c d y at ic o m j e lo (inr q) =
          subst (IsOver k) (sym (ap (λ n. get_or d.tasks n e) q ∙ there_at i c d y at (here_of c ic) e)) o

module _ (k : Code) (steps kept i : ℕ) (s u v : Share) (within : i < length u.tasks.items) (le : kept ≤ i)
    (put : IsPutBefore kept i u v) where
  put_runs : Runs k (λ b c. c.tasks ≡ swap b.tasks kept i) u v
  put_runs a b code is fit =
      let n = kept_length k u.tasks.items b.tasks is.tasks in
      let lk : kept < length b.tasks = omega (arith, within, le, n) in
      let li : i < length b.tasks = omega (arith, within, n) in
      let crew : Crew = record { tasks = swap b.tasks kept i; forked = b.forked; ended = b.ended } in
      record {
        crew = crew;
        is = record {
          tasks = subst (λ (ts : List TypedTask). AreKept k ts (swap b.tasks kept i)) (sym put.tasks)
              (kept_swap k u.tasks.items b.tasks kept i is.tasks (omega (arith, within, le)) within);
          forked = subst (λ (ts : List TypedTask). AreKept k ts b.forked) (sym put.forked) is.forked;
          ended = subst (λ (ts : List TypedTask). AreKept k ts b.ended) (sym put.ended) is.ended;
        };
        ran = ran_dealt k a u v b crew
            (IsPermutation-append_left (b.forked ++ b.ended) b.tasks (swap b.tasks kept i)
            (IsPermutation-swap b.tasks (swap b.tasks kept i) kept i lk li refl))
            refl (λ all. all) put.marks.0 put.marks.1;
        so = refl;
      }

  swapped : (c d : Crew) → IsCrew k u c → d.tasks ≡ swap c.tasks kept i →
      (e : Thread) → Swapped (λ n. get_or c.tasks n e) (λ n. get_or d.tasks n e) kept i
  swapped c d ic is e =
      let n = kept_length k u.tasks.items c.tasks ic.tasks in
      swapped_from_swap c.tasks d.tasks kept i e (omega (arith, within, le, n)) (omega (arith, within, n)) is

  -- what is over stands behind
  over_put : (c d : Crew) → IsCrew k u c → d.tasks ≡ swap c.tasks kept i →
      ((j : ℕ) (e : Thread) → kept ≤ j → j < i → IsOver k (get_or c.tasks j e)) →
      (j : ℕ) (e : Thread) → kept + 1 ≤ j → j < i + 1 → IsOver k (get_or d.tasks j e)
  over_put c d ic is h j e lo hi = go (lt_or_same j i hi)
    where
      go : (j < i) ⊎ (j ≡ i) → IsOver k (get_or d.tasks j e)
      go (inl l) = subst (IsOver k) (sym ((swapped c d ic is e).2 j (λ q. absurd (omega (arith, q, lo)))
          (λ q. absurd (omega (arith, q, l))))) (h j e (omega (arith, lo)) l)
      go (inr q) = subst (IsOver k) (sym (ap (λ n. get_or d.tasks n e) q ∙ (swapped c d ic is e).1))
          (h kept e (omega arith) (omega (arith, lo, q)))

  -- a thread that is kept stays
  stays_put : (c d : Crew) → IsCrew k u c → d.tasks ≡ swap c.tasks kept i →
      (j : ℕ) (e : Thread) → j < kept → get_or d.tasks j e ≡ get_or c.tasks j e
  stays_put c d ic is j e l = (swapped c d ic is e).2 j (λ q. absurd (omega (arith, q, l)))
      (λ q. absurd (omega (arith, q, l, le)))

  put_waits : Middle k steps kept i (λ xs ys x. HasAsked k xs ys x) s u → PassesTo k steps (kept + 1) (i + 1) false s v
  put_waits m = runs_then k _ _ (HasPassed k steps (kept + 1) (i + 1) false v) s u v
      (λ a b c d ib ic id r q p is. record {
        first = λ j e l. first a b c d ic is q p.0 p.1 j e (lt_or_same j kept l);
        over = over_put c d ic is p.0.over;
      }) m put_runs
    where
      first : (a : Tree) (b c d : Crew) → IsCrew k u c → d.tasks ≡ swap c.tasks kept i → Ran k a u v c d →
          HasPassed k steps kept i false u b c →
          ((e : Thread) → HasAsked k (threads_of b) (threads_of c) (get_or c.tasks i e)) → (j : ℕ) (e : Thread) → (j < kept) ⊎
          (j ≡ kept) → HasAsked k (threads_of b) (threads_of d) (get_or d.tasks j e)
      first a b c d ic is q h one j e (inl l) =
          subst (HasAsked k (threads_of b) (threads_of d)) (sym (stays_put c d ic is j e l))
          (asked_later k a u v (threads_of b) c d (get_or c.tasks j e) q (h.first j e l))
      first a b c d ic is q h one j e (inr n) =
          subst (HasAsked k (threads_of b) (threads_of d)) (sym (ap (λ n. get_or d.tasks n e) n ∙ (swapped c d ic is e).0))
          (asked_later k a u v (threads_of b) c d (get_or c.tasks i e) q (one e))

  put_halts : Middle k steps kept i (λ xs ys x. Exceeds steps u x) s u → PassesTo k steps (kept + 1) (i + 1) true s v
  put_halts m = runs_then k _ _ (HasPassed k steps (kept + 1) (i + 1) true v) s u v
      (λ a b c d ib ic id r q p is. record {
        first = (
          kept,
          omega arith,
          λ e. subst (Exceeds steps v) (sym (swapped c d ic is e).0)
              (exceeds_marked steps u v (get_or c.tasks i e) put.marks (p.1 e)),
        );
        over = over_put c d ic is p.0.over;
      }) m put_runs

  pub put_halted : PassesTo k steps kept i true s u → PassesTo k steps (kept + 1) (i + 1) true s v
  put_halted m = runs_then k _ _ (HasPassed k steps (kept + 1) (i + 1) true v) s u v
      (λ a b c d ib ic id r q p is. record {
        first = (
          p.first.0,
          let l = p.first.1 in omega (arith, l),
          λ e. subst (Exceeds steps v) (sym (stays_put c d ic is p.first.0 e p.first.1))
              (exceeds_marked steps u v (get_or c.tasks p.first.0 e) put.marks (p.first.2 e)),
        );
        over = over_put c d ic is p.over;
      }) m put_runs

module _ (k : Code) (steps kept i : ℕ) (s t u v : Share) (within : i < length t.tasks.items) (still : i < length u.tasks.items)
    (le : kept ≤ i) (put : IsPutBefore kept i u v)
    (before : PassesTo k steps kept i false s t) where
  pub visit_waits : StopsAt k i steps Waits t u → PassesTo k steps (kept + 1) (i + 1) false s v
  visit_waits h = put_waits k steps kept i s u v still le put (middle_waits k steps kept i s t u within le before h)

  pub visit_halts : StopsAt k i steps Halts t u → PassesTo k steps (kept + 1) (i + 1) true s v
  visit_halts h = put_halts k steps kept i s u v still le put (middle_halts k steps kept i s t u within le before h)

-- ---- those that have come to their end

take_all : (xs : List Thread) (n : ℕ) → n ≡ length xs → take n xs ≡ xs
take_all [] zero e = refl
take_all [] (suc n) e = absurd (omega (arith, e))
take_all (x ∷ xs) zero e = absurd (omega (arith, e))
take_all (x ∷ xs) (suc n) e = ap (λ (l : List Thread). x ∷ l) (take_all xs n (omega (arith, e)))

-- the first ones of a list whose last one is taken away
front_is : (xs front : List Thread) (n m : ℕ) (x : Thread) → take n xs ≡ front ++ x ∷ [] → m ≡ length front → n ≡ m + 1 →
    (front ≡ take m xs) × ((e : Thread) → get_or xs m e ≡ x) × (m < length xs)
front_is [] [] n zero x h l e = absurd (last n h)
  where
    last : (n : ℕ) → take n [] ≡ x ∷ [] → ⊥
    last zero h = cc h
    last (suc n) h = cc h
front_is [] [] n (suc m) x h l e = absurd (omega (arith, l))
front_is [] (y ∷ ys) zero m x h l e = absurd (cc h)
front_is [] (y ∷ ys) (suc n) m x h l e = absurd (cc h)
front_is (z ∷ zs) [] zero m x h l e = absurd (omega (arith, e))
front_is (z ∷ zs) [] (suc n) zero x h l e = (refl, (λ d. let q : z ≡ x = cc h in q), omega arith)
front_is (z ∷ zs) [] (suc n) (suc m) x h l e = absurd (omega (arith, l))
front_is (z ∷ zs) (y ∷ ys) zero m x h l e = absurd (omega (arith, e))
front_is (z ∷ zs) (y ∷ ys) (suc n) zero x h l e = absurd (omega (arith, l))
front_is (z ∷ zs) (y ∷ ys) (suc n) (suc m) x h l e =
    let head : z ≡ y = cc h in
    let tail : take n zs ≡ ys ++ x ∷ [] = cc h in
    let r = front_is zs ys n m x tail (omega (arith, l)) (omega (arith, e)) in
    (ap (λ (w : Thread). w ∷ ys) (sym head) ∙ ap (λ (l : List Thread). z ∷ l) r.0, r.1, let b = r.2 in omega (arith, b))

pub retires_none : (kept : ℕ) (s : Share) (n : ℕ) → n ≡ length s.tasks.items → RetiresTo kept n s s
retires_none kept s n l k a b code is fit over = record {
  crew = b;
  is = is;
  ran = ran_none k a s b;
  so = sym (take_all b.tasks n (l ∙ sym (kept_length k s.tasks.items b.tasks is.tasks)));
}

one_kept : (k : Code) (t : TypedTask) (xs : List Thread) → AreKept k (t ∷ []) xs → (x : Thread) × (xs ≡ x ∷ [])
one_kept k t [] h = absurd h
one_kept k t (x ∷ []) h = (x, refl)
one_kept k t (x ∷ y ∷ ys) h = absurd h.1

module _ (kept n m : ℕ) (s t u : Share) (x : TypedTask) (le : kept ≤ m) (next : n ≡ m + 1) (before : RetiresTo kept n s t)
    (tasks : t.tasks.items ≡ u.tasks.items ++ x ∷ [])
    (ended : u.ended.items ≡ t.ended.items ++ x ∷ []) (forked : u.forked.items ≡ t.forked.items) (same : HasSameMarks t u)
    (count : m ≡ length u.tasks.items) where
  pub retires_one : RetiresTo kept m s u
  retires_one k a b code is fit over =
      let g = before k a b code is fit over in
      let p = kept_split k u.tasks.items (x ∷ []) g.crew.tasks
      (subst (λ (ts : List TypedTask). AreKept k ts g.crew.tasks) tasks g.is.tasks) in
      let y = one_kept k x p.second p.others in
      let all : g.crew.tasks ≡ p.first ++ y.0 ∷ [] = p.is ∙ ap (λ (l : List Thread). p.first ++ l) y.1 in
      let len = count ∙ sym (kept_length k u.tasks.items p.first p.keeps) in
      let f = front_is b.tasks p.first n m y.0 (sym g.so ∙ all) len next in
      let done : IsOver k y.0 = subst (IsOver k) (f.1 y.0) (over m y.0 le f.2) in
      let crew : Crew = record { tasks = p.first; forked = g.crew.forked; ended = g.crew.ended ++ y.0 ∷ [] } in
      let rest = p.first ++ (g.crew.forked ++ g.crew.ended) in
      let front : IsPermutation (threads_of g.crew) (y.0 ∷ rest) =
      subst (λ (l : List Thread). IsPermutation (l ++ (g.crew.forked ++ g.crew.ended)) (y.0 ∷ rest)) (sym all)
      (IsPermutation-append_left (g.crew.forked ++ g.crew.ended) (p.first ++ y.0 ∷ []) (y.0 ∷ p.first)
      (IsPermutation-to_front p.first y.0)) in
      let back : rest ++ y.0 ∷ [] ≡ threads_of crew =
      append_assoc p.first (g.crew.forked ++ g.crew.ended) (y.0 ∷ []) ∙ ap
      (λ (l : List Thread). p.first ++ l) (append_assoc g.crew.forked g.crew.ended (y.0 ∷ [])) in
      let moved : IsPermutation (threads_of g.crew) (threads_of crew) =
      subst (λ (l : List Thread). IsPermutation (threads_of g.crew) l) back
      (IsPermutation-trans (threads_of g.crew) (y.0 ∷ rest) (rest ++ y.0 ∷ []) front
      (IsPermutation-sym (rest ++ y.0 ∷ []) (y.0 ∷ rest) (IsPermutation-to_front rest y.0))) in
      record {
        crew = crew;
        is = record {
          tasks = p.keeps;
          forked = subst (λ (ts : List TypedTask). AreKept k ts g.crew.forked) (sym forked) g.is.forked;
          ended = subst (λ (ts : List TypedTask). AreKept k ts (g.crew.ended ++ y.0 ∷ [])) (sym ended)
              (kept_append k t.ended.items (x ∷ []) g.crew.ended (y.0 ∷ []) g.is.ended (subst (AreKept k (x ∷ [])) y.1 p.others));
        };
        ran = ran_then k a s t u b g.crew crew g.ran
            (ran_dealt k a t u g.crew crew moved refl (λ all. All-push (IsOver k) g.crew.ended y.0 all done) same.0 same.1);
        so = f.0;
      }

-- ---- a whole pass

pub pass_ends : (k : Code) (steps kept n : ℕ) (halted : Bool) (s t u : Share) → kept ≤ n → n ≡ length t.tasks.items →
    PassesTo k steps kept n halted s t → RetiresTo kept kept t u → HasSameMarks t u →
    Passes k steps s u
pass_ends k steps kept n halted s t u le count p q same a b code is fit =
    let g = p a b code is fit in
    let len = kept_length k t.tasks.items g.crew.tasks g.is.tasks in
    let h = q k a g.crew code g.is (ran_fits k a s t b g.crew g.ran fit)
    (λ j e lo hi. g.so.over j e lo (omega (arith, hi, len, count))) in
    let there = λ (j : ℕ) (e : Thread) (l : j < kept). ap (λ (xs : List Thread). get_or xs j e) h.so
    ∙ get_or-take kept g.crew.tasks j e l in
    let short : length h.crew.tasks ≡ kept = ap length h.so ∙ length_take kept g.crew.tasks (omega (arith, le, count, len)) in
    record {
      crew = h.crew;
      is = h.is;
      ran = ran_then k a s t u b g.crew h.crew g.ran h.ran;
      so = stopped halted g.crew h.crew h.ran there short g.so.first;
    }
  where
    length_take : (n : ℕ) (xs : List Thread) → n ≤ length xs → length (take n xs) ≡ n
    length_take zero xs l = refl
    length_take (suc n) [] l = absurd (omega (arith, l))
    length_take (suc n) (x ∷ xs) l = let ih = length_take n xs (omega (arith, l)) in omega (arith, ih)

    stopped : (halted : Bool) (c d : Crew) → Ran k a t u c d →
        ((j : ℕ) (e : Thread) → j < kept → get_or d.tasks j e ≡ get_or c.tasks j e) → length d.tasks ≡ kept →
        FirstStop k steps kept halted t (threads_of b) (threads_of c) c.tasks → HasStopped k steps u b d
    stopped false c d r there short first =
        inl (λ j e l. subst (HasAsked k (threads_of b) (threads_of d)) (sym (there j e (omega (arith, l, short))))
        (asked_later k a t u (threads_of b) c d (get_or c.tasks j e) r (first j e (omega (arith, l, short)))))
    stopped true c d r there short first =
        let l = first.1 in
        inr (
          first.0,
          omega (arith, l, short),
          λ e. subst (Exceeds steps u) (sym (there first.0 e l))
              (exceeds_marked steps t u (get_or c.tasks first.0 e) same (first.2 e)),
        )

-- one pass after the other
pub passes_then : (k : Code) (steps : ℕ) (s t u : Share) → Passes k steps s t → Passes k steps t u → Passes k steps s u
passes_then k steps s t u p q = runs_then k _ _ (HasStopped k steps u) s t u (λ a b c d ib ic id r q h z. again a b c d r z) p q
  where
    again : (a : Tree) (b c d : Crew) → Ran k a s t b c → HasStopped k steps u c d → HasStopped k steps u b d
    again a b c d r (inl all) = inl (λ j e l. asked_earlier k a s t (threads_of d) b c (get_or d.tasks j e) r (all j e l))
    again a b c d r (inr x) = inr x

-- told by other numbers that are the same
pub passes_as : (k : Code) (steps n m i : ℕ) (h q : Bool) (s u : Share) → m ≡ n → q ≡ h → PassesTo k steps n i h s u →
    PassesTo k steps m i q s u
passes_as k steps n m i h q s u e f p = subst (λ m. PassesTo k steps m i q s u) (sym e)
    (subst (λ q. PassesTo k steps n i q s u) (sym f) p)
