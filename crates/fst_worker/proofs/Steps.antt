-- One turn of a share's task, among the others.
use Rattle.std.proofs.Common.{◌≡◌, ◌∙◌, inl, inr, ℕ, zero, suc, ◌+◌, ◌<◌, Bool, Result, Ok, Err, List, [], ◌∷◌, ◌++◌, length, get_or, set, refl, sym, ap, subst, arith}
use Rattle.std.specs.Prelude.{vec_len, if◌then◌else◌}
use Rattle.std.specs.declared.alloc.AllocError.{AllocError}
use Rattle.std.proofs.lemmas.List.{append-nil, get_or-set_same}
use Rattle.std.proofs.lemmas.List.Elements.{All-get_or}
use Rattle.std.proofs.lemmas.List.Sorted.{sum_by-IsPermutation}
use Rattle.std.proofs.lemmas.List.Sums.{sum_by-cons, sum_by_push}
use Rattle.fst_types.specs.Tree.{Tree}
use Rattle.fst_types.specs.declared.ends.EndName.{EndName}
use Rattle.fst_machine.specs.declared.code.Code.{Code}
use Rattle.fst_machine.specs.declared.request.Request.TheVariants as request
use Rattle.fst_machine.specs.Machine as machine
use Rattle.fst_runs.specs.Configs.{same_end}
use Rattle.fst_runs.specs.Wrong.{once}
use Rattle.fst_runs.proofs.Laws.{same_end-itself}
use Rattle.fst_cell.specs.End.{EndView, end_name}
use Rattle.fst_runs.specs.declared.log.LogEntry.{LogEntry}
use Rattle.fst_safety.specs.declared.tasks.TypedTask.{TypedTask}
use Rattle.fst_safety.specs.declared.tasks.Turned.{Turned}
use Rattle.fst_safety.specs.declared.tasks.Turned.TheVariants as turned
use Rattle.fst_safety.specs.Tasks as turns
use Rattle.fst_safety.specs.Tasks.{CanTurn, FoundNoWay, HasGained, HasLeft, HasOffered, HasTried, HasTurned, Grows, Keeps, TakesTurn, module_of, tries_at, work}
use Rattle.fst_safety.specs.Threads.{Thread, FitsIn}
use Rattle.fst_safety.specs.Turns.{of_ends}
use Rattle.fst_safety.proofs.Laws.{stays}
use Rattle.fst_worker.specs.declared.shares.Move.{Move}
use Rattle.fst_worker.specs.declared.shares.Move.TheVariants as move
use Rattle.fst_worker.specs.declared.shares.Share.{Share}
use Rattle.fst_worker.specs.Shares.{AreKept, IsOver, counts_one, work_of}
use Rattle.fst_worker.specs.Passes.{AsksMore, CanRun, Comes, TurnsAt, is_move}
use Rattle.fst_worker.proofs.Crews.{All-first, kept_at, kept_set, kept_append, kept_length}

-- ---- tries

-- an end that has tried once more
more_tries : (z : EndName) (e f : EndView) → end_name e ≡ z → end_name f ≡ z → f.knows.tries ≡ e.knows.tries + 1 →
    tries_at z f ≡ tries_at z e + 1
more_tries z e f p q more =
    let here = λ (g : EndView) (r : end_name g ≡ z). ap (λ y. if same_end z y then g.knows.tries else 0) r ∙ ap
    (λ b. if b then g.knows.tries else 0) (same_end-itself z) in
    let a : tries_at z e ≡ e.knows.tries = here e p in
    let b : tries_at z f ≡ f.knows.tries = here f q in
    omega (arith, a, b, more)

-- the end of a thread has tried
tried_end : (z : EndName) (x y : Thread) (e f : EndView) → HasTried z e f x y → end_name f ≡ end_name e →
    f.knows.tries ≡ e.knows.tries + 1 → of_ends (tries_at z) x < of_ends (tries_at z) y
tried_end z x y e f t same more =
    let a = sum_by-IsPermutation (tries_at z) x.bag (e ∷ t.rest) t.was in
    let b = sum_by-cons (tries_at z) e t.rest in
    let c = sum_by_push (tries_at z) t.rest f in
    let d = more_tries z e f t.named (same ∙ t.named) more in
    let h : of_ends (tries_at z) x < of_ends (tries_at z) (record x { bag = t.rest ++ f ∷ [] }) = omega (arith, a, b, c, d) in
    subst (λ (w : Thread). of_ends (tries_at z) x < of_ends (tries_at z) w) (sym t.is) h

-- one that found no way has tried once more
found_tries : (e f : EndView) → FoundNoWay e f → (end_name f ≡ end_name e) × (f.knows.tries ≡ e.knows.tries + 1)
found_tries e f (inl h) = (ap end_name h.now, ap (λ (g : EndView). g.knows.tries) h.now)
found_tries e f (inr (inl h)) = (ap end_name h.now, ap (λ (g : EndView). g.knows.tries) h.now)
found_tries e f (inr (inr h)) = (ap end_name h.now, ap (λ (g : EndView). g.knows.tries) h.now)

module _ (k : Code) (x y : Thread) where
  left_asks : (z : EndName) → HasLeft (module_of k) z x y → (y.log ≡ x.log) × AsksMore k x y
  left_asks z h =
      let f = found_tries h.before h.after h.found in
      let now = ap (λ (w : Thread). w.now) h.tried.is in (
        ap (λ (w : Thread). w.log) h.tried.is,
        record {
          asked = h.asked;
          asks = ap (λ n. machine.request (module_of k).families n.state) now ∙ h.asks;
          end = z;
          at = h.at;
          tried = tried_end z x y h.before h.after h.tried f.0 f.1;
        },
      )

  offered_asks : HasOffered (module_of k) x y → (y.log ≡ x.log) × AsksMore k x y
  offered_asks h =
      let now = ap (λ (w : Thread). w.now) h.tried.is in (
        ap (λ (w : Thread). w.log) h.tried.is,
        record {
          asked = request.Put h.name h.event;
          asks = ap (λ n. machine.request (module_of k).families n.state) now ∙ h.asks;
          end = h.name;
          at = refl;
          tried = tried_end h.name x y h.before h.after h.tried (ap end_name h.offered.now)
              (ap (λ (g : EndView). g.knows.tries) h.offered.now);
        },
      )

-- ---- the turn of a task in its share

-- what stands at a place is put there
pub set_there : (xs : List Thread) (i : ℕ) (x : Thread) → ((e : Thread) → get_or xs i e ≡ x) → set xs i x ≡ xs
set_there [] i x h = refl
set_there (y ∷ ys) zero x h = ap (λ (z : Thread). z ∷ ys) (sym (h y))
set_there (y ∷ ys) (suc i) x h = ap (λ (l : List Thread). y ∷ l) (set_there ys i x h)

-- the task at a place can turn
pub can_turn : (k : Code) (s : Share) (i : ℕ) (t : TypedTask) → CanRun k s → i < length s.tasks.items →
    t ≡ get_or s.tasks.items i t → CanTurn k t
can_turn k s i t r within is =
    let p = kept_at k s.tasks.items r.crew.tasks i r.is.tasks within in
    let all = All-first (FitsIn (module_of k) r.type) r.crew.tasks (r.crew.forked ++ r.crew.ended) r.fit in
    let l = kept_length k s.tasks.items r.crew.tasks r.is.tasks in
    let fit = subst (FitsIn (module_of k) r.type) (p.is p.thread)
    (All-get_or (FitsIn (module_of k) r.type) r.crew.tasks i p.thread (omega (arith, within, l)) all) in (
      r.type,
      p.thread,
      record {
        code = r.code;
        keeps = subst (λ (w : TypedTask). Keeps k w p.thread) (sym is) (p.keeps t);
        fits =
            fit;
      },
    )

module _ (k : Code) (i : ℕ) (s u : Share) (t v : TypedTask) (r : Result Turned AllocError) (h : TakesTurn k t r v)
    (within : i < length s.tasks.items) (is : t ≡ get_or s.tasks.items i t)
    (tasks : u.tasks.items ≡ set s.tasks.items i v) (ended : u.ended.items ≡ s.ended.items) where
  abbrev pub Tells : Result Move AllocError → List TypedTask → Type 0
  Tells q forks = (a : Tree) (x : Thread) (g : HasTurned k a r v x) → AreKept k forks g.new × Comes k q x g.after g.new

  turned_with : (q : Result Move AllocError) (forks : List TypedTask) → is_move q ≡ turns.is_move r →
      u.forked.items ≡ s.forked.items ++ forks → Tells q forks → TurnsAt k i q s u
  turned_with q forks same more tells a b code crew fit =
      let p = kept_at k s.tasks.items b.tasks i crew.tasks within in
      let all = All-first (FitsIn (module_of k) a) b.tasks (b.forked ++ b.ended) fit in
      let l = kept_length k s.tasks.items b.tasks crew.tasks in
      let one = subst (FitsIn (module_of k) a) (p.is p.thread)
      (All-get_or (FitsIn (module_of k) a) b.tasks i p.thread (omega (arith, within, l)) all) in
      let keeps = subst (λ (w : TypedTask). Keeps k w p.thread) (sym is) (p.keeps t) in
      let g = h a p.thread (record { code = code; keeps = keeps; fits = one }) in
      let told = tells a p.thread g in
      record {
        crew = record { tasks = set b.tasks i g.after; forked = b.forked ++ g.new; ended = b.ended };
        is = record {
          tasks = subst (λ (l : List TypedTask). AreKept k l (set b.tasks i g.after)) (sym tasks)
              (kept_set k s.tasks.items b.tasks i v g.after crew.tasks g.keeps);
          forked = subst (λ (l : List TypedTask). AreKept k l (b.forked ++ g.new)) (sym more)
              (kept_append k s.forked.items forks b.forked g.new crew.forked told.0);
          ended = subst (λ (l : List TypedTask). AreKept k l b.ended) (sym ended) crew.ended;
        };
        before = p.thread;
        after = g.after;
        was = p.is;
        at = record { tasks = refl; new = g.new; forked = refl; ended = refl };
        goes = g.goes;
        done = subst (λ m. Grows m (work p.thread) (work g.after + work_of g.new)) (sym same) g.done;
        tries = g.tries;
        comes = told.1;
      }

  -- where nothing is forked
  turned_alone : (q : Result Move AllocError) → is_move q ≡ turns.is_move r → u.forked.items ≡ s.forked.items →
      ((a : Tree) (x : Thread) (g : HasTurned k a r v x) → (g.new ≡ []) × Comes k q x g.after g.new) → TurnsAt k i q s u
  turned_alone q move same tells = turned_with q [] move (same ∙ sym (append-nil s.forked.items))
      (λ a x g. let p = tells a x g in (subst (AreKept k []) (sym p.0) tt, p.1))

-- an index within a share's tasks
pub within : (s : Share) (i : ℕ) → i < vec_len s.tasks → i < length s.tasks.items
within s i l = let e = s.tasks.ok.0 in omega (arith, l, e)

-- what the test of the last entry tells
abbrev pub Counts : Bool → List LogEntry → Type 0
Counts b log = (es : List LogEntry) (e : LogEntry) → log ≡ es ++ e ∷ [] → once b ≡ counts_one e.answer

-- the log of the task that made a turn, as it stands among the others
pub counts_there : (b : Bool) (ts : List TypedTask) (i : ℕ) (v w : TypedTask) (log : List LogEntry) → i < length ts →
    w ≡ get_or (set ts i v) i w → log ≡ w.log.items → Counts b log → Counts b v.log.items
counts_there b ts i v w log l there same counts es e is =
    counts es e (same ∙ ap (λ (u : TypedTask). u.log.items) (there ∙ get_or-set_same ts i v w l) ∙ is)

gained_comes : (k : Code) (a : Tree) (r : Result Turned AllocError) (v : TypedTask) (x : Thread) (g : HasTurned k a r v x)
    (b : Bool) → Counts b v.log.items → (n : HasGained x g.after) → once b ≡ counts_one n.entry.answer
gained_comes k a r v x g b counts n = counts x.log n.entry (g.keeps.log ∙ n.is)

module _ (k : Code) (i : ℕ) (s u : Share) (t v : TypedTask) (within : i < length s.tasks.items)
    (is : t ≡ get_or s.tasks.items i t)
    (tasks : u.tasks.items ≡ set s.tasks.items i v) (ended : u.ended.items ≡ s.ended.items) where
  pub moved_turns : (b : Bool) → u.forked.items ≡ s.forked.items → Counts b v.log.items → TakesTurn k t (Ok turned.Moved) v →
      TurnsAt k i (Ok (move.Gained b)) s u
  moved_turns b same counts h = turned_alone k i s u t v (Ok turned.Moved) h within is tasks ended (Ok (move.Gained b)) refl same
      (λ a x g. (g.answers.1, (g.answers.0, gained_comes k a (Ok turned.Moved) v x g b counts g.answers.0)))

  pub forked_turns : (b : Bool) (w : TypedTask) → u.forked.items ≡ s.forked.items ++ w ∷ [] → Counts b v.log.items →
      TakesTurn k t (Ok (turned.Forked w)) v →
      TurnsAt k i (Ok (move.Gained b)) s u
  forked_turns b w more counts h = turned_with k i s u t v (Ok (turned.Forked w)) h within is tasks ended (Ok (move.Gained b))
      (w ∷ []) refl more
      (λ a x g. (
        subst (AreKept k (w ∷ [])) (sym g.answers.2) (g.answers.3, tt),
        (g.answers.1, gained_comes k a (Ok (turned.Forked w)) v x g b counts g.answers.1),
      ))

  pub offered_turns : u.forked.items ≡ s.forked.items → TakesTurn k t (Ok turned.Offered) v → TurnsAt k i (Ok move.Offered) s u
  offered_turns same h = turned_alone k i s u t v (Ok turned.Offered) h within is tasks ended (Ok move.Offered) refl same
      (λ a x g. let p = offered_asks k x g.after g.answers.0 in (g.answers.1, (p.0, g.answers.1, p.1)))

  pub left_turns : (z : EndName) → u.forked.items ≡ s.forked.items → TakesTurn k t (Ok (turned.Left z)) v →
      TurnsAt k i (Ok move.Left) s u
  left_turns z same h = turned_alone k i s u t v (Ok (turned.Left z)) h within is tasks ended (Ok move.Left) refl same
      (λ a x g. let p = left_asks k x g.after z g.answers.0 in (g.answers.1, (p.0, g.answers.1, p.1)))

  pub ended_turns : u.forked.items ≡ s.forked.items → TakesTurn k t (Ok turned.Ended) v → TurnsAt k i (Ok move.Over) s u
  ended_turns same h = turned_alone k i s u t v (Ok turned.Ended) h within is tasks ended (Ok move.Over) refl same
      (λ a x g. (
        g.answers.2,
        (
          ap (λ (w : Thread). w.log) g.answers.1,
          g.answers.2,
          subst (IsOver k) (sym g.answers.1) g.answers.0,
        ),
      ))

  pub wanting_turns : (e : AllocError) → u.forked.items ≡ s.forked.items → TakesTurn k t (Err e) v → TurnsAt k i (Err e) s u
  wanting_turns e same h = turned_alone k i s u t v (Err e) h within is tasks ended (Err e) refl same
      (λ a x g. (g.answers.2, (g.answers.0, g.answers.2)))

-- a task that makes no turn
pub nothing_turns : (k : Code) (i : ℕ) (s u : Share) → i < length s.tasks.items →
    (e : AllocError) → u.tasks.items ≡ s.tasks.items → u.forked.items ≡ s.forked.items →
    u.ended.items ≡ s.ended.items → TurnsAt k i (Err e) s u
nothing_turns k i s u l e tasks forked ended a b code crew fit =
    let p = kept_at k s.tasks.items b.tasks i crew.tasks l in
    let all = All-first (FitsIn (module_of k) a) b.tasks (b.forked ++ b.ended) fit in
    let n = kept_length k s.tasks.items b.tasks crew.tasks in
    let one = subst (FitsIn (module_of k) a) (p.is p.thread)
    (All-get_or (FitsIn (module_of k) a) b.tasks i p.thread (omega (arith, l, n)) all) in
    record {
      crew = b;
      is = record {
        tasks = subst (λ (ts : List TypedTask). AreKept k ts b.tasks) (sym tasks) crew.tasks;
        forked = subst (λ (ts : List TypedTask). AreKept k ts b.forked) (sym forked) crew.forked;
        ended = subst (λ (ts : List TypedTask). AreKept k ts b.ended) (sym ended) crew.ended;
      };
      before = p.thread;
      after = p.thread;
      was = p.is;
      at = record { tasks = sym (set_there b.tasks i p.thread p.is); new = []; forked = sym (append-nil b.forked); ended = refl };
      goes = stays (module_of k) a p.thread one;
      done = omega arith;
      tries = λ z. omega arith;
      comes = (refl, refl);
    }
