-- Tasks and the threads that they are, list by list.
use Rattle.std.proofs.Common.{◌≡◌, ◌∙◌, ℕ, zero, suc, ◌<◌, List, [], ◌∷◌, ◌++◌, length, get_or, set, refl, sym, ap, subst, arith}
use Rattle.std.specs.Prelude.{All, sum_by, swap}
use Rattle.std.proofs.lemmas.List.Elements.{All-nil, All-cons, All-head, All-tail}
use Rattle.std.proofs.lemmas.List.Sums.{sum_by-cons}
use Rattle.fst_machine.specs.declared.code.Code.{Code}
use Rattle.fst_safety.specs.declared.tasks.TypedTask.{TypedTask}
use Rattle.fst_safety.specs.Tasks.{Keeps}
use Rattle.fst_safety.specs.Threads.{Thread}
use Rattle.fst_worker.specs.declared.shares.Share.{Share}
use Rattle.fst_worker.specs.Shares.{AreKept, AreCrews, Crew, IsCrew, all_of, all_tasks, all_threads, threads_of}

module _ {X : Type 0} (P : X → Type 0) where
  -- what holds of all holds of the first ones, and of the others
  pub All-first : (xs ys : List X) → All P (xs ++ ys) → All P xs
  All-first [] ys all = All-nil P
  All-first (x ∷ xs) ys all = All-cons P x xs (All-head P x (xs ++ ys) all) (All-first xs ys (All-tail P x (xs ++ ys) all))

  pub All-behind : (xs ys : List X) → All P (xs ++ ys) → All P ys
  All-behind [] ys all = all
  All-behind (x ∷ xs) ys all = All-behind xs ys (All-tail P x (xs ++ ys) all)

module _ (k : Code) where
  pub kept_length : (ts : List TypedTask) (xs : List Thread) → AreKept k ts xs → length xs ≡ length ts
  kept_length [] [] h = refl
  kept_length [] (x ∷ xs) h = absurd h
  kept_length (t ∷ ts) [] h = absurd h
  kept_length (t ∷ ts) (x ∷ xs) h = let ih = kept_length ts xs h.1 in omega (arith, ih)

  -- the thread of the task at a place
  pub record IsThere (ts : List TypedTask) (xs : List Thread) (i : ℕ) : Type 0 where
    pub thread : Thread
    pub keeps : (d : TypedTask) → Keeps k (get_or ts i d) thread
    pub is : (e : Thread) → get_or xs i e ≡ thread

  pub kept_at : (ts : List TypedTask) (xs : List Thread) (i : ℕ) → AreKept k ts xs → i < length ts → IsThere ts xs i
  kept_at [] xs i h l = absurd (omega (arith, l))
  kept_at (t ∷ ts) [] i h l = absurd h
  kept_at (t ∷ ts) (x ∷ xs) zero h l = record { thread = x; keeps = λ d. h.0; is = λ e. refl }
  kept_at (t ∷ ts) (x ∷ xs) (suc i) h l =
      let r = kept_at ts xs i h.1 (omega (arith, l)) in
      record { thread = r.thread; keeps = r.keeps; is = r.is }

  pub kept_set : (ts : List TypedTask) (xs : List Thread) (i : ℕ) (u : TypedTask) (y : Thread) → AreKept k ts xs → Keeps k u y →
      AreKept k (set ts i u) (set xs i y)
  kept_set [] [] i u y h p = h
  kept_set [] (x ∷ xs) i u y h p = absurd h
  kept_set (t ∷ ts) [] i u y h p = absurd h
  kept_set (t ∷ ts) (x ∷ xs) zero u y h p = (p, h.1)
  kept_set (t ∷ ts) (x ∷ xs) (suc i) u y h p = (h.0, kept_set ts xs i u y h.1 p)

  pub kept_append : (ts us : List TypedTask) (xs ys : List Thread) → AreKept k ts xs → AreKept k us ys →
      AreKept k (ts ++ us) (xs ++ ys)
  kept_append [] us [] ys h p = p
  kept_append [] us (x ∷ xs) ys h p = absurd h
  kept_append (t ∷ ts) us [] ys h p = absurd h
  kept_append (t ∷ ts) us (x ∷ xs) ys h p = (h.0, kept_append ts us xs ys h.1 p)

  -- the threads of two lists of tasks
  pub record AreBoth (ts us : List TypedTask) (zs : List Thread) : Type 0 where
    pub first : List Thread
    pub second : List Thread
    pub is : zs ≡ first ++ second
    pub keeps : AreKept k ts first
    pub others : AreKept k us second

  pub kept_split : (ts us : List TypedTask) (zs : List Thread) → AreKept k (ts ++ us) zs → AreBoth ts us zs
  kept_split [] us zs h = record { first = []; second = zs; is = refl; keeps = tt; others = h }
  kept_split (t ∷ ts) us [] h = absurd h
  kept_split (t ∷ ts) us (z ∷ zs) h =
      let r = kept_split ts us zs h.1 in
      record {
        first = z ∷ r.first;
        second = r.second;
        is = ap (λ (l : List Thread). z ∷ l) r.is;
        keeps =
            (h.0, r.keeps);
        others = r.others;
      }

  pub kept_swap : (ts : List TypedTask) (xs : List Thread) (i j : ℕ) → AreKept k ts xs → i < length ts → j < length ts →
      AreKept k (swap ts i j) (swap xs i j)
  kept_swap [] xs i j h li lj = absurd (omega (arith, li))
  kept_swap (t ∷ ts) [] i j h li lj = absurd h
  kept_swap (t ∷ ts) (x ∷ xs) i j h li lj =
      let p = kept_at (t ∷ ts) (x ∷ xs) i h li in
      let q = kept_at (t ∷ ts) (x ∷ xs) j h lj in
      let first = kept_set (t ∷ ts) (x ∷ xs) i (get_or (t ∷ ts) j t) (get_or (x ∷ xs) j x) h
      (subst (Keeps k (get_or (t ∷ ts) j t)) (sym (q.is x)) (q.keeps t)) in
      kept_set (set (t ∷ ts) i (get_or (t ∷ ts) j t)) (set (x ∷ xs) i (get_or (x ∷ xs) j x)) j (get_or (t ∷ ts) i t)
      (get_or (x ∷ xs) i x) first
      (subst (Keeps k (get_or (t ∷ ts) i t)) (sym (p.is x)) (p.keeps t))

  pub kept_sum : (f : TypedTask → ℕ) (g : Thread → ℕ) → ((t : TypedTask) (x : Thread) → Keeps k t x → f t ≡ g x) →
      (ts : List TypedTask) (xs : List Thread) → AreKept k ts xs → sum_by f ts ≡ sum_by g xs
  kept_sum f g e [] [] h = refl
  kept_sum f g e [] (x ∷ xs) h = absurd h
  kept_sum f g e (t ∷ ts) [] h = absurd h
  kept_sum f g e (t ∷ ts) (x ∷ xs) h =
      let a = sum_by-cons f t ts in
      let b = sum_by-cons g x xs in
      let one = e t x h.0 in
      let ih = kept_sum f g e ts xs h.1 in
      omega (arith, a, b, one, ih)

  pub kept_all : (P : TypedTask → Type 0) (Q : Thread → Type 0) → ((t : TypedTask) (x : Thread) → Keeps k t x → Q x → P t) →
      (ts : List TypedTask) (xs : List Thread) → AreKept k ts xs → All Q xs → All P ts
  kept_all P Q f [] [] h all = All-nil P
  kept_all P Q f [] (x ∷ xs) h all = absurd h
  kept_all P Q f (t ∷ ts) [] h all = absurd h
  kept_all P Q f (t ∷ ts) (x ∷ xs) h all = All-cons P t ts (f t x h.0 (All-head Q x xs all))
      (kept_all P Q f ts xs h.1 (All-tail Q x xs all))

  -- ---- shares

  pub crew_kept : (s : Share) (c : Crew) → IsCrew k s c → AreKept k (all_of s) (threads_of c)
  crew_kept s c is = kept_append s.tasks.items (s.forked.items ++ s.ended.items) c.tasks (c.forked ++ c.ended) is.tasks
      (kept_append s.forked.items s.ended.items c.forked c.ended is.forked is.ended)

  -- all tasks of the shares are the threads of the crews
  pub crews_kept : (ss : List Share) (cs : List Crew) → AreCrews k ss cs → AreKept k (all_tasks ss) (all_threads cs)
  crews_kept [] [] h = tt
  crews_kept [] (c ∷ cs) h = absurd h
  crews_kept (s ∷ ss) [] h = absurd h
  crews_kept (s ∷ ss) (c ∷ cs) h = kept_append (all_of s) (all_tasks ss) (threads_of c) (all_threads cs) (crew_kept s c h.0)
      (crews_kept ss cs h.1)

  -- the threads of a share's tasks as a crew
  pub record IsManned (s : Share) (xs : List Thread) : Type 0 where
    pub crew : Crew
    pub is : IsCrew k s crew
    pub same : threads_of crew ≡ xs

  pub crew_of : (s : Share) (xs : List Thread) → AreKept k (all_of s) xs → IsManned s xs
  crew_of s xs h =
      let p = kept_split s.tasks.items (s.forked.items ++ s.ended.items) xs h in
      let q = kept_split s.forked.items s.ended.items p.second p.others in
      record {
        crew = record { tasks = p.first; forked = q.first; ended = q.second };
        is = record { tasks = p.keeps; forked = q.keeps; ended = q.others };
        same = sym (p.is ∙ ap (λ (l : List Thread). p.first ++ l) q.is);
      }

  -- the threads of all tasks as crews of the shares
  pub record AreManned (ss : List Share) (xs : List Thread) : Type 0 where
    pub crews : List Crew
    pub are : AreCrews k ss crews
    pub same : all_threads crews ≡ xs

  pub crews_of : (ss : List Share) (xs : List Thread) → AreKept k (all_tasks ss) xs → AreManned ss xs
  crews_of [] [] h = record { crews = []; are = tt; same = refl }
  crews_of [] (x ∷ xs) h = absurd h
  crews_of (s ∷ ss) xs h =
      let p = kept_split (all_of s) (all_tasks ss) xs h in
      let q = crew_of s p.first p.keeps in
      let r = crews_of ss p.second p.others in
      record {
        crews = q.crew ∷ r.crews;
        are = (q.is, r.are);
        same = ap (λ (l : List Thread). l ++ all_threads r.crews) q.same ∙ ap (λ (l : List Thread). p.first ++ l) r.same
            ∙ sym p.is;
      }
