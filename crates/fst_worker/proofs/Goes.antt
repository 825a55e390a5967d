-- What a share's turns keep: one turn, and one after the other.
use Rattle.std.proofs.Common.{◌≡◌, ◌∙◌, ℕ, zero, suc, ◌+◌, ◌<◌, ◌≤◌, Bool, true, false, Result, Ok, Err, List, [], ◌∷◌, ◌++◌, length, get_or, set, take, drop, refl, sym, ap, subst, arith, append_assoc}
use Rattle.std.specs.Prelude.{All, IsPermutation, sum_by}
use Rattle.std.specs.declared.alloc.AllocError.{AllocError}
use Rattle.std.proofs.lemmas.List.{get_or-set_same, length-set}
use Rattle.std.proofs.lemmas.List.Elements.{All-append, All-get_or}
use Rattle.std.proofs.lemmas.List.Sorted.{IsPermutation-sym, IsPermutation-trans, IsPermutation-append_left, IsPermutation-append_right, IsPermutation-middle, IsPermutation-cons, IsPermutation-append_comm, sum_by-IsPermutation}
use Rattle.std.proofs.lemmas.List.Sums.{sum_by-append, sum_by-cons, sum_by_push}
use Rattle.fst_types.specs.Tree.{Tree}
use Rattle.fst_types.specs.declared.ends.EndName.{EndName}
use Rattle.fst_machine.specs.declared.code.Code.{Code}
use Rattle.fst_machine.specs.Machine.{Program}
use Rattle.fst_runs.specs.Configs.{Path, Task}
use Rattle.fst_runs.specs.Wrong.{once}
use Rattle.fst_runs.specs.declared.log.LogEntry.{LogEntry}
use Rattle.fst_safety.specs.declared.tasks.TypedTask.{TypedTask}
use Rattle.fst_safety.specs.WellTyped.{program_in}
use Rattle.fst_runs.specs.Logs.{Enters, Follows, after_entry}
use Rattle.fst_safety.specs.Going.{GoesOnTo}
use Rattle.fst_safety.specs.Tasks.{Grows, HasGained, module_of, tries_at, work}
use Rattle.fst_safety.specs.Threads.{Thread, FitsIn}
use Rattle.fst_safety.specs.Turns.{of_ends}
use Rattle.fst_runs.proofs.Laws.{later}
use Rattle.fst_worker.specs.declared.shares.Move.{Move}
use Rattle.fst_worker.specs.declared.shares.Move.TheVariants as move
use Rattle.fst_worker.specs.declared.shares.Share.{Share}
use Rattle.fst_worker.specs.Works.{Step}
use Rattle.fst_worker.specs.Shares.{AreKept, Crew, HasAsked, IsCrew, IsIdle, IsOver, counts, counts_one, own_paths, threads_of, tries_of, work_of}
use Rattle.fst_worker.specs.Passes.{AsksMore, CanRun, IsAt, Ran, Runs, StepsAt, TurnedAt, TurnsAt, clock_at, is_move, noted}
use Rattle.fst_worker.proofs.Chains.{went_none, went_then, went_step}
use Rattle.fst_worker.proofs.Crews.{All-first, kept_length}
use Rattle.fst_records.proofs.Laws.{sum_none}
use Rattle.fst_worker.proofs.Wholes.{went_fits}

-- ---- clocks

-- a longer log leads on by its last entry
follows_last : (p : Program) (path : Path) (t : Task) (es : List LogEntry) (u v : Task) (g : LogEntry) → Follows p path t es u →
    Follows p path t (es ++ g ∷ []) v →
    Enters p path u g × (v ≡ after_entry p u g)
follows_last p path t [] u v g f h = (subst (λ w. Enters p path w g) (sym f) h.0, h.1 ∙ ap (λ w. after_entry p w g) (sym f))
follows_last p path t (e ∷ es) u v g f h = follows_last p path (after_entry p t e) es u v g f.1 h.1

-- the clock of a thread whose log is longer is later
rises : (k : Code) (a : Tree) (x y : Thread) (new : List Thread) → FitsIn (module_of k) a x → GoesOnTo (module_of k) a x y new →
    HasGained x y → x.now.clock < y.now.clock
rises k a x y new f goes g =
    let p = program_in (module_of k) in
    let h1 = subst (λ path. Follows p path y.first y.log y.now) goes.turn.path goes.fits.follows in
    let h2 = subst (λ first. Follows p x.path first y.log y.now) goes.turn.first h1 in
    let h3 = subst (λ log. Follows p x.path x.first log y.now) g.is h2 in
    let l = follows_last p x.path x.first x.log x.now y.now g.entry f.follows h3 in
    let is = ap (λ (t : Task). t.clock) l.1 in
    let le = later x.path x.now g.entry.stamp g.entry.asked g.entry.answer l.0.is_answered in
    omega (arith, is, le)

-- a task's clock is its thread's
pub kept_clock : (k : Code) (ts : List TypedTask) (xs : List Thread) (i : ℕ) (e : Thread) → AreKept k ts xs → i < length ts →
    clock_at ts i ≡ (get_or xs i e).now.clock
kept_clock k [] xs i e h l = absurd (omega (arith, l))
kept_clock k (t ∷ ts) [] i e h l = absurd h
kept_clock k (t ∷ ts) (x ∷ xs) zero e h l = h.0.clock
kept_clock k (t ∷ ts) (x ∷ xs) (suc i) e h l = kept_clock k ts xs i e h.1 (omega (arith, l))

-- and so is the one that stands at the place
pub clock_there : (ts : List TypedTask) (i : ℕ) (d : TypedTask) → i < length ts → (get_or ts i d).clock ≡ clock_at ts i
clock_there [] i d l = absurd (omega (arith, l))
clock_there (t ∷ ts) zero d l = refl
clock_there (t ∷ ts) (suc i) d l = clock_there ts i d (omega (arith, l))

-- ---- what was done

as_much : (m : Bool) (i j : ℕ) → Grows m i j → i ≤ j
as_much true i j g = omega (arith, g)
as_much false i j g = omega (arith, g)

-- where more was done from i to j it isn't less from j to l
grows_on : (m n : Bool) (i j l : ℕ) → Grows m i j → (n ≡ false → m ≡ false) → j ≤ l → (m ≡ false → Grows n j l) → Grows n i l
grows_on false true i j l g back less f = let h = f refl in omega (arith, g, h)
grows_on false false i j l g back less f = let h = f refl in omega (arith, g, h)
grows_on true true i j l g back less f = omega (arith, g, less)
grows_on true false i j l g back less f = let e = back refl in absurd (cc e)

-- ---- one turn among the others

split_at : (xs : List Thread) (i : ℕ) (x y : Thread) → i < length xs → ((e : Thread) → get_or xs i e ≡ x) →
    (xs ≡ take i xs ++ (x ∷ drop (suc i) xs)) × (set xs i y ≡ take i xs ++ (y ∷ drop (suc i) xs))
split_at [] i x y l h = absurd (omega (arith, l))
split_at (z ∷ zs) zero x y l h = (ap (λ (w : Thread). w ∷ zs) (h z), refl)
split_at (z ∷ zs) (suc i) x y l h =
    let r = split_at zs i x y (omega (arith, l)) h in
    (ap (λ (l : List Thread). z ∷ l) r.0, ap (λ (l : List Thread). z ∷ l) r.1)

-- a sum to which the one that is put gives as much
same_sum : (f : Thread → ℕ) (xs : List Thread) (i : ℕ) (x y : Thread) → i < length xs →
    ((e : Thread) → get_or xs i e ≡ x) → f y ≡ f x → sum_by f (set xs i y) ≡ sum_by f xs
same_sum f xs i x y l h e =
    let r = split_at xs i x y l h in
    let before = ap (sum_by f) r.0 ∙ sum_by-append f (take i xs) (x ∷ drop (suc i) xs) in
    let now = ap (sum_by f) r.1 ∙ sum_by-append f (take i xs) (y ∷ drop (suc i) xs) in
    let p = sum_by-cons f x (drop (suc i) xs) in
    let q = sum_by-cons f y (drop (suc i) xs) in
    omega (arith, before, now, p, q, e)

module _ (k : Code) (a : Tree) where
  step_in : (xs fs es : List Thread) (i : ℕ) (x y : Thread) (new : List Thread) → i < length xs →
      ((e : Thread) → get_or xs i e ≡ x) → GoesOnTo (module_of k) a x y new →
      Step (module_of k) a (xs ++ (fs ++ es)) (set xs i y ++ ((fs ++ new) ++ es))
  step_in xs fs es i x y new l h goes =
      let p = take i xs in
      let q = drop (suc i) xs in
      let r = split_at xs i x y l h in
      let before : IsPermutation (xs ++ (fs ++ es)) (x ∷ ((p ++ q) ++ (fs ++ es))) =
      IsPermutation-append_left (fs ++ es) xs (x ∷ (p ++ q))
      (subst (λ (l : List Thread). IsPermutation l (x ∷ (p ++ q))) (sym r.0) (IsPermutation-middle p x q)) in
      let inner : IsPermutation (new ++ (fs ++ es)) ((fs ++ new) ++ es) =
      subst (λ (l : List Thread). IsPermutation l ((fs ++ new) ++ es)) (append_assoc new fs es)
      (IsPermutation-append_left es (new ++ fs) (fs ++ new) (IsPermutation-append_comm new fs)) in
      let outer : IsPermutation (new ++ ((p ++ q) ++ (fs ++ es))) ((p ++ q) ++ (new ++ (fs ++ es))) =
      subst (λ (l : List Thread). IsPermutation (new ++ ((p ++ q) ++ (fs ++ es))) l) (append_assoc (p ++ q) new (fs ++ es))
      (subst (λ (l : List Thread). IsPermutation l (((p ++ q) ++ new) ++ (fs ++ es))) (append_assoc new (p ++ q) (fs ++ es))
      (IsPermutation-append_left (fs ++ es) (new ++ (p ++ q)) ((p ++ q) ++ new) (IsPermutation-append_comm new (p ++ q)))) in
      let ends : IsPermutation (new ++ ((p ++ q) ++ (fs ++ es))) ((p ++ q) ++ ((fs ++ new) ++ es)) =
      IsPermutation-trans (new ++ ((p ++ q) ++ (fs ++ es))) ((p ++ q) ++ (new ++ (fs ++ es)))
      ((p ++ q) ++ ((fs ++ new) ++ es)) outer
      (IsPermutation-append_right (p ++ q) (new ++ (fs ++ es)) ((fs ++ new) ++ es) inner) in
      let put : IsPermutation (y ∷ (p ++ q)) (set xs i y) =
      IsPermutation-sym (set xs i y) (y ∷ (p ++ q))
      (subst (λ (l : List Thread). IsPermutation l (y ∷ (p ++ q))) (sym r.1) (IsPermutation-middle p y q)) in
      record {
        task = x;
        after = y;
        new = new;
        rest = (p ++ q) ++ (fs ++ es);
        goes = goes;
        before_is = before;
        after_is = IsPermutation-trans (y ∷ (new ++ ((p ++ q) ++ (fs ++ es)))) (y ∷ ((p ++ q) ++ ((fs ++ new) ++ es)))
            (set xs i y ++ ((fs ++ new) ++ es))
            (IsPermutation-cons y (new ++ ((p ++ q) ++ (fs ++ es))) ((p ++ q) ++ ((fs ++ new) ++ es)) ends)
            (IsPermutation-append_left ((fs ++ new) ++ es) (y ∷ (p ++ q)) (set xs i y) put);
      }

  crew_step : (b c : Crew) (i : ℕ) (x y : Thread) (at : IsAt i b c y) → i < length b.tasks →
      ((e : Thread) → get_or b.tasks i e ≡ x) → GoesOnTo (module_of k) a x y at.new →
      Step (module_of k) a (threads_of b) (threads_of c)
  crew_step b c i x y at l h goes =
      let is : threads_of c ≡ set b.tasks i y ++ ((b.forked ++ at.new) ++ b.ended) =
      ap (λ (l : List Thread). l ++ (c.forked ++ c.ended)) at.tasks
      ∙ ap (λ (l : List Thread). set b.tasks i y ++ (l ++ c.ended)) at.forked
      ∙ ap (λ (l : List Thread). set b.tasks i y ++ ((b.forked ++ at.new) ++ l)) at.ended in
      subst (λ (l : List Thread). Step (module_of k) a (threads_of b) l) (sym is)
      (step_in b.tasks b.forked b.ended i x y at.new l h goes)

  -- what is summed up before and after a turn
  pub record Sums (f : Thread → ℕ) (xs ys : List Thread) (x y : Thread) (new : List Thread) : Type 0 where
    pub rest : ℕ
    pub before : sum_by f xs ≡ f x + rest
    pub later : sum_by f ys ≡ f y + (sum_by f new + rest)

  sums : (f : Thread → ℕ) (xs ys : List Thread) (s : Step (module_of k) a xs ys) → Sums f xs ys s.task s.after s.new
  sums f xs ys s = record {
    rest = sum_by f s.rest;
    before = sym (sum_by-IsPermutation f xs (s.task ∷ s.rest) s.before_is) ∙ sum_by-cons f s.task s.rest;
    later = sum_by-IsPermutation f (s.after ∷ (s.new ++ s.rest)) ys s.after_is
        ∙ (sum_by-cons f s.after (s.new ++ s.rest) ∙ ap (λ n. f s.after + n) (sum_by-append f s.new s.rest));
  }

-- ---- what one turn keeps

-- how many events of the log of a thread are counted
abbrev events_of : Thread → ℕ
events_of x = counts x.log

none_counted : (x : Thread) → IsIdle x → events_of x ≡ 0
none_counted x e = ap counts e

module _ (k : Code) (a : Tree) (i : ℕ) (r : Result Move AllocError) (s u : Share) (b : Crew) (is : IsCrew k s b)
    (fit : All (FitsIn (module_of k) a) (threads_of b))
    (l : i < length s.tasks.items) (t : TurnedAt k a i r u b) where
  here : i < length b.tasks
  here = let n = kept_length k s.tasks.items b.tasks is.tasks in omega (arith, l, n)

  fits_here : FitsIn (module_of k) a t.before
  fits_here = subst (FitsIn (module_of k) a) (t.was t.before)
      (All-get_or (FitsIn (module_of k) a) b.tasks i t.before here
      (All-first (FitsIn (module_of k) a) b.tasks (b.forked ++ b.ended) fit))

  step : Step (module_of k) a (threads_of b) (threads_of t.crew)
  step = crew_step k a b t.crew i t.before t.after t.at here t.was t.goes

  summed : (f : Thread → ℕ) → Sums k a f (threads_of b) (threads_of t.crew) t.before t.after t.at.new
  unfolding step_in
  summed f =
      let n = t.at in
      let is : threads_of t.crew ≡ set b.tasks i t.after ++ ((b.forked ++ n.new) ++ b.ended) =
      ap (λ (l : List Thread). l ++ (t.crew.forked ++ t.crew.ended)) n.tasks
      ∙ ap (λ (l : List Thread). set b.tasks i t.after ++ (l ++ t.crew.ended)) n.forked
      ∙ ap (λ (l : List Thread). set b.tasks i t.after ++ ((b.forked ++ n.new) ++ l)) n.ended in
      let p = sums k a f (threads_of b) (set b.tasks i t.after ++ ((b.forked ++ n.new) ++ b.ended))
      (step_in k a b.tasks b.forked b.ended i t.before t.after n.new here t.was t.goes) in
      record { rest = p.rest; before = p.before; later = ap (sum_by f) is ∙ p.later }

  still_idle : All IsIdle b.forked → All IsIdle t.crew.forked
  still_idle all = subst (All IsIdle) (sym t.at.forked) (All-append IsIdle b.forked t.at.new all t.goes.turn.idle)

  still_over : All (IsOver k) b.ended → All (IsOver k) t.crew.ended
  still_over all = subst (All (IsOver k)) (sym t.at.ended) all

  tries_more : (z : EndName) → tries_of z (threads_of b) ≤ tries_of z (threads_of t.crew)
  tries_more z =
      let p = summed (of_ends (tries_at z)) in
      let q = t.tries z in
      omega (arith, p.before, p.later, q)

  grown : Grows (is_move r) (work_of (threads_of b)) (work_of (threads_of t.crew))
  grown = by (is_move r) t.done
    where
      by : (m : Bool) → Grows m (work t.before) (work t.after + work_of t.at.new) →
          Grows m (work_of (threads_of b)) (work_of (threads_of t.crew))
      by true d = let p = summed work in omega (arith, p.before, p.later, d)
      by false d = let p = summed work in omega (arith, p.before, p.later, d)

  -- so much was done in a share that tells of this turn
  done : (w : Share) → (s.moved ≡ false → w.moved ≡ is_move r) → s.moved ≡ false →
      Grows w.moved (work_of (threads_of b)) (work_of (threads_of t.crew))
  done w told z = subst (λ m. Grows m (work_of (threads_of b)) (work_of (threads_of t.crew))) (sym (told z)) grown

  own : (w : Path → ℕ) → own_paths w t.crew ≡ own_paths w b
  own w =
      let f = λ (x : Thread). w x.path in
      let p = same_sum f b.tasks i t.before t.after here t.was (ap w t.goes.turn.path) in
      let q = ap (sum_by f) t.at.tasks in
      let r = ap (sum_by f) t.at.ended in
      omega (arith, p, q, r)

  none_new : sum_by events_of t.at.new ≡ 0
  none_new = sum_none events_of IsIdle none_counted t.at.new t.goes.turn.idle

  -- after a turn that makes no entry
  pub quiet_ran : (w : Share) → t.after.log ≡ t.before.log → t.at.new ≡ [] → w.events ≡ s.events →
      (w.moved ≡ false → s.moved ≡ false) → (s.moved ≡ false → w.moved ≡ is_move r) →
      Ran k a s w b t.crew
  quiet_ran w same none events moved told = record {
    went = went_step (module_of k) a (threads_of b) (threads_of t.crew) step;
    own = own;
    idle = still_idle;
    over = still_over;
    counted =
        let p = summed events_of in
        let e = ap counts same in
        omega (arith, p.before, p.later, e, events, none_new);
    moved = moved;
    work = as_much (is_move r) (work_of (threads_of b)) (work_of (threads_of t.crew)) grown;
    done = done w told;
    still = λ m f.
        let p = summed (λ (x : Thread). f x.path x.log) in
        let e : f t.after.path t.after.log ≡ f t.before.path t.before.log = ap (λ path. f path t.after.log) t.goes.turn.path
        ∙ ap (f t.before.path) same in
        let n = ap (sum_by (λ (x : Thread). f x.path x.log)) none in
        omega (arith, p.before, p.later, e, n);
    tries = tries_more;
  }

  -- after one that makes an entry
  pub gained_ran : (w : Share) (c : Bool) (g : HasGained t.before t.after) → once c ≡ counts_one g.entry.answer →
      w.events ≡ s.events + once c → w.moved ≡ true → is_move r ≡ true →
      Ran k a s w b t.crew
  gained_ran w c g counted events moved told = record {
    went = went_step (module_of k) a (threads_of b) (threads_of t.crew) step;
    own = own;
    idle = still_idle;
    over = still_over;
    counted =
        let p = summed events_of in
        let e = ap counts g.is in
        let m = sum_by_push (λ (e : LogEntry). counts_one e.answer) t.before.log g.entry in
        omega (arith, p.before, p.later, e, m, counted, events, none_new);
    moved = λ m. let e = sym moved ∙ m in absurd (cc e);
    work = as_much (is_move r) (work_of (threads_of b)) (work_of (threads_of t.crew)) grown;
    done = done w (λ z. moved ∙ sym told);
    still = λ m. let e = sym moved ∙ m in absurd (cc e);
    tries = tries_more;
  }

  pub asks_then : AsksMore k t.before t.after → HasAsked k (threads_of b) (threads_of t.crew) t.after
  asks_then q =
      let p = summed (of_ends (tries_at q.end)) in
      record {
        asked = q.asked;
        asks = q.asks;
        end = q.end;
        at = q.at;
        tried = let d = q.tried in
            omega (arith, p.before, p.later, d);
      }

  pub clock_then : HasGained t.before t.after → t.before.now.clock < t.after.now.clock
  clock_then g = rises k a t.before t.after t.at.new fits_here t.goes g

-- an answer tells one thing
pub ok_same : (m n : Move) → ◌≡◌ {A = Result Move AllocError} (Ok m) (Ok n) → m ≡ n
ok_same m n e = cc

-- a share counts and tells the same
pub record SameMarks (s u : Share) : Type 0 where
  pub events : u.events ≡ s.events
  pub moved : u.moved ≡ s.moved

module _ (k : Code) (i : ℕ) (s u : Share) (l : i < length s.tasks.items) (same : SameMarks s u) where
  pub steps_noted : (m : Move) → TurnsAt k i (Ok m) s u → StepsAt k i (Ok m) s (noted m u)
  steps_noted (move.Gained c) h a b code is fit =
      let t = h a b code is fit in
      record {
        crew = t.crew;
        is = record { tasks = t.is.tasks; forked = t.is.forked; ended = t.is.ended };
        ran = gained_ran k a i (Ok (move.Gained c)) s u b is fit l t (noted (move.Gained c) u) c t.comes.0 t.comes.1
            (ap (λ n. n + once c) same.events) refl refl;
        so = (t.after, t.at, tt);
      }
  steps_noted move.Offered h a b code is fit =
      let t = h a b code is fit in
      record {
        crew = t.crew;
        is = record { tasks = t.is.tasks; forked = t.is.forked; ended = t.is.ended };
        ran = quiet_ran k a i (Ok move.Offered) s u b is fit l t (noted move.Offered u) t.comes.0 t.comes.1 same.events
            (λ m. absurd (cc m)) (λ z. refl);
        so = (t.after, t.at, asks_then k a i (Ok move.Offered) s u b is fit l t t.comes.2);
      }
  steps_noted move.Left h a b code is fit =
      let t = h a b code is fit in
      record {
        crew = t.crew;
        is = t.is;
        ran = quiet_ran k a i (Ok move.Left) s u b is fit l t u t.comes.0 t.comes.1 same.events (λ m. sym same.moved ∙ m)
            (λ z. same.moved ∙ z);
        so = (t.after, t.at, asks_then k a i (Ok move.Left) s u b is fit l t t.comes.2);
      }
  steps_noted move.Over h a b code is fit =
      let t = h a b code is fit in
      record {
        crew = t.crew;
        is = t.is;
        ran = quiet_ran k a i (Ok move.Over) s u b is fit l t u t.comes.0 t.comes.1 same.events (λ m. sym same.moved ∙ m)
            (λ z. same.moved ∙ z);
        so = (t.after, t.at, t.comes.2);
      }

  pub steps_wanting : (e : AllocError) → TurnsAt k i (Err e) s u → StepsAt k i (Err e) s u
  steps_wanting e h a b code is fit =
      let t = h a b code is fit in
      record {
        crew = t.crew;
        is = t.is;
        ran = quiet_ran k a i (Err e) s u b is fit l t u t.comes.0 t.comes.1 same.events (λ m. sym same.moved ∙ m)
            (λ z. same.moved ∙ z);
        so = (t.after, t.at, tt);
      }

  -- the clock of the task at the place is later after an entry
  pub clock_steps : (m : Move) → CanRun k s → TurnsAt k i (Ok m) s u →
      (c : Bool) → m ≡ move.Gained c → clock_at s.tasks.items i < clock_at (noted m u).tasks.items i
  clock_steps move.Offered can h c e = absurd (cc e)
  clock_steps move.Left can h c e = absurd (cc e)
  clock_steps move.Over can h c e = absurd (cc e)
  clock_steps (move.Gained d) can h c e =
      let t = h can.type can.crew can.code can.is can.fit in
      let le = clock_then k can.type i (Ok (move.Gained d)) s u can.crew can.is can.fit l t t.comes.0 in
      let n = kept_length k s.tasks.items can.crew.tasks can.is.tasks in
      let n2 = kept_length k u.tasks.items t.crew.tasks t.is.tasks in
      let n3 = ap length t.at.tasks ∙ length-set can.crew.tasks i t.after in
      let p = kept_clock k s.tasks.items can.crew.tasks i t.before can.is.tasks l ∙ ap
      (λ (x : Thread). x.now.clock) (t.was t.before) in
      let q = kept_clock k u.tasks.items t.crew.tasks i t.after t.is.tasks (omega (arith, l, n, n2, n3))
      ∙ ap (λ (xs : List Thread). (get_or xs i t.after).now.clock) t.at.tasks
      ∙ ap (λ (x : Thread). x.now.clock) (get_or-set_same can.crew.tasks i t.after t.after (omega (arith, l, n))) in
      omega (arith, le, p, q)

-- ---- one after the other

pub ran_none : (k : Code) (a : Tree) (s : Share) (b : Crew) → Ran k a s s b b
ran_none k a s b = record {
  went = went_none (module_of k) a (threads_of b);
  own = λ w. refl;
  idle = λ all. all;
  over = λ all. all;
  counted = refl;
  moved = λ m. m;
  work = omega arith;
  done = λ z. subst (λ m. Grows m (work_of (threads_of b)) (work_of (threads_of b))) (sym z) refl;
  still = λ m w. refl;
  tries = λ z. omega arith;
}

pub ran_then : (k : Code) (a : Tree) (s t u : Share) (b c d : Crew) → Ran k a s t b c → Ran k a t u c d → Ran k a s u b d
ran_then k a s t u b c d p q = record {
  went = went_then (module_of k) a (threads_of b) (threads_of c) (threads_of d) p.went q.went;
  own = λ w. q.own w ∙ p.own w;
  idle = λ all. q.idle (p.idle all);
  over = λ all. q.over (p.over all);
  counted = let e = p.counted in let f = q.counted in omega (arith, e, f);
  moved = λ m. p.moved (q.moved m);
  work = let e = p.work in let f = q.work in omega (arith, e, f);
  done = λ z. grows_on t.moved u.moved (work_of (threads_of b)) (work_of (threads_of c)) (work_of (threads_of d))
      (p.done z) q.moved q.work q.done;
  still = λ m w. q.still m w ∙ p.still (q.moved m) w;
  tries = λ z. let e = p.tries z in let f = q.tries z in omega (arith, e, f);
}

-- the crew fits again
pub ran_fits : (k : Code) (a : Tree) (s u : Share) (b c : Crew) → Ran k a s u b c → All (FitsIn (module_of k) a) (threads_of b) →
    All (FitsIn (module_of k) a) (threads_of c)
ran_fits k a s u b c r fit = went_fits (module_of k) a (threads_of b) (threads_of c) r.went fit

-- a share that has run can run again
pub runs_on : (k : Code) (P : Crew → Crew → Type 0) (s u : Share) → Runs k P s u → CanRun k s → CanRun k u
runs_on k P s u h can =
    let r = h can.type can.crew can.code can.is can.fit in
    record {
      type = can.type;
      code = can.code;
      crew = r.crew;
      is = r.is;
      fit =
          ran_fits k can.type s u can.crew r.crew r.ran can.fit;
    }

-- what was asked at an end stays asked
pub asked_later : (k : Code) (a : Tree) (s u : Share) (xs : List Thread) (b c : Crew) (x : Thread) → Ran k a s u b c →
    HasAsked k xs (threads_of b) x → HasAsked k xs (threads_of c) x
asked_later k a s u xs b c x r h = record {
  asked = h.asked;
  asks = h.asks;
  end = h.end;
  at = h.at;
  tried = let e = r.tries h.end in let d = h.tried in omega (arith, e, d);
}

pub asked_earlier : (k : Code) (a : Tree) (s u : Share) (ys : List Thread) (b c : Crew) (x : Thread) → Ran k a s u b c →
    HasAsked k (threads_of c) ys x → HasAsked k (threads_of b) ys x
asked_earlier k a s u ys b c x r h = record {
  asked = h.asked;
  asks = h.asks;
  end = h.end;
  at = h.at;
  tried = let e = r.tries h.end in let d = h.tried in omega (arith, e, d);
}
