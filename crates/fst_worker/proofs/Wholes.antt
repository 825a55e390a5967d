-- What holds of all threads together is kept by turns.
use Rattle.std.proofs.Common.{◌≡◌, ◌⊎◌, inl, inr, ◌<◌, ℕ, zero, suc, ◌+◌, List, [], ◌∷◌, ◌++◌, sym, ap, ◌∙◌, arith}
use Rattle.std.specs.Prelude.{sum_by, All, IsPermutation}
use Rattle.std.proofs.lemmas.List.Elements.{All-head, All-tail, All-cons, All-append, All-weaker}
use Rattle.std.proofs.lemmas.List.Sorted.{All-permutation, sum_by-IsPermutation}
use Rattle.std.proofs.lemmas.List.Sums.{sum_by-append, sum_by-cons}
use Rattle.fst_types.specs.Tree.{Tree}
use Rattle.fst_types.specs.declared.side.Side.TheVariants.{Left, Right}
use Rattle.fst_derivations.specs.Rules.{Surroundings}
use Rattle.fst_types.specs.declared.ends.ChannelName.{ChannelName}
use Rattle.fst_types.specs.declared.ends.EndName.{EndName}
use Rattle.fst_runs.specs.Configs.{Path, Task, same_end}
use Rattle.fst_runs.specs.Wrong.{once, held_state}
use Rattle.fst_cell.specs.End.{EndView, end_name}
use Rattle.fst_runs.specs.declared.log.LogEntry.{LogEntry}
use Rattle.fst_safety.specs.WellTyped.{program_in}
use Rattle.fst_runs.specs.Logs.{Birth, Exchange, Opening, births, exchanges, openings}
use Rattle.fst_safety.specs.Threads.{Thread, FitsIn, count_of}
use Rattle.fst_safety.specs.Turns.{Turn, AreKnownSpent, of_ends, by_type, by_cell, by_exchanges, birth}
use Rattle.fst_worker.specs.Works.{Step, Turns, Went, Whole, IsKnownIn, bears, opens, trades}
use Rattle.fst_records.proofs.Laws.{exchanges_more, births_more, openings_more, sum_none}

-- how often an end is among the spent ones of a thread
abbrev spent_in : EndName → Thread → ℕ
spent_in z y = count_of z y.retired

module _ (m : Surroundings) (a : Tree) where
  -- the sums before and after a step
  pub record Sums (f : Thread → ℕ) (xs ys : List Thread) (t u : Thread) (new rest : List Thread) : Type 0 where
    pub before : sum_by f xs ≡ f t + sum_by f rest
    pub later : sum_by f ys ≡ f u + (sum_by f new + sum_by f rest)

  sums : (f : Thread → ℕ) (xs ys : List Thread) (s : Step m a xs ys) → Sums f xs ys s.task s.after s.new s.rest
  sums f xs ys s = record {
    before = sym (sum_by-IsPermutation f xs (s.task ∷ s.rest) s.before_is) ∙ sum_by-cons f s.task s.rest;
    later = sum_by-IsPermutation f (s.after ∷ (s.new ++ s.rest)) ys s.after_is
        ∙ (sum_by-cons f s.after (s.new ++ s.rest) ∙ ap (λ n. f s.after + n) (sum_by-append f s.new s.rest));
  }

  -- what holds of each thread before holds of the one that goes on, and of those that don't
  first_of_all : (P : Thread → Type 0) (xs ys : List Thread) (s : Step m a xs ys) → All P xs → P s.task
  first_of_all P xs ys s all = All-head P s.task s.rest (All-permutation P xs (s.task ∷ s.rest) s.before_is all)

  rest_of_all : (P : Thread → Type 0) (xs ys : List Thread) (s : Step m a xs ys) → All P xs → All P s.rest
  rest_of_all P xs ys s all = All-tail P s.task s.rest (All-permutation P xs (s.task ∷ s.rest) s.before_is all)

  -- what holds of the one that went on, of the new ones and of the others holds of each afterwards
  all_again : (P : Thread → Type 0) (xs ys : List Thread) (s : Step m a xs ys) → P s.after → All P s.new → All P s.rest → All P ys
  all_again P xs ys s one new rest =
      All-permutation P (s.after ∷ (s.new ++ s.rest)) ys s.after_is
      (All-cons P s.after (s.new ++ s.rest) one (All-append P s.new s.rest new rest))

  -- all fit after a step
  pub step_fits : (xs ys : List Thread) → Step m a xs ys → All (FitsIn m a) xs → All (FitsIn m a) ys
  step_fits xs ys s all = all_again (FitsIn m a) xs ys s s.goes.fits s.goes.new_fit (rest_of_all (FitsIn m a) xs ys s all)

  -- ---- what the log of the thread that went on says

  trades_grow : (w : Exchange → ℕ) (x y : Thread) (new : List Thread) (r : Turn m x y new) → FitsIn m a x →
      trades w y ≡ trades w x + sum_by w (exchanges x.now.clock r.gained)
  trades_grow w x y new r f =
      ap (λ (t : Task). sum_by w (exchanges t.clock y.log)) r.first ∙ ap
      (λ (l : List LogEntry). sum_by w (exchanges x.first.clock l)) r.log
      ∙ exchanges_more w (program_in m) x.path x.first x.log r.gained x.now f.follows

  bears_grow : (w : Birth → ℕ) (x y : Thread) (new : List Thread) (r : Turn m x y new) → FitsIn m a x →
      bears m w y ≡ bears m w x + sum_by w (births (program_in m) x.path x.now r.gained)
  bears_grow w x y new r f =
      ap (λ (p : Path). sum_by w (births (program_in m) p y.first y.log)) r.path ∙ ap
      (λ (t : Task). sum_by w (births (program_in m) x.path t y.log)) r.first
      ∙ ap (λ (l : List LogEntry). sum_by w (births (program_in m) x.path x.first l)) r.log
      ∙ births_more w (program_in m) x.path x.first x.log r.gained x.now f.follows

  opens_grow : (w : ChannelName → Tree → ℕ) (x y : Thread) (new : List Thread) (r : Turn m x y new) →
      opens m w y ≡ opens m w x + sum_by (λ (o : Opening). w o.name o.declared) (openings m.types r.gained)
  opens_grow w x y new r =
      ap (λ (l : List LogEntry). sum_by (λ (o : Opening). w o.name o.declared) (openings m.types l)) r.log
      ∙ openings_more (λ (o : Opening). w o.name o.declared) m.types x.log r.gained

  same_birth : (w : Birth → ℕ) (x y : Thread) (new : List Thread) (r : Turn m x y new) → w (birth y) ≡ w (birth x)
  same_birth w x y new r = λ i. w (record { path = r.path i; first = r.first i })

  -- the thread has done nothing yet
  abbrev Empty : Thread → Type 0
  Empty k = k.log ≡ []

  none_traded : (w : Exchange → ℕ) (k : Thread) → Empty k → trades w k ≡ 0
  none_traded w k e = ap (λ (l : List LogEntry). sum_by w (exchanges k.first.clock l)) e

  none_born : (w : Birth → ℕ) (k : Thread) → Empty k → bears m w k ≡ 0
  none_born w k e = ap (λ (l : List LogEntry). sum_by w (births (program_in m) k.path k.first l)) e

  none_opened : (w : ChannelName → Tree → ℕ) (k : Thread) → Empty k → opens m w k ≡ 0
  none_opened w k e = ap (λ (l : List LogEntry). sum_by (λ (o : Opening). w o.name o.declared) (openings m.types l)) e

  -- ---- spent ends

  -- no fewer are known afterwards
  spent_grow : (z : EndName) (xs ys : List Thread) (s : Step m a xs ys) → 0 < sum_by (spent_in z) xs → 0 < sum_by (spent_in z) ys
  spent_grow z xs ys s n =
      let r = s.goes.turn in
      let q = sums (spent_in z) xs ys s in
      let b = q.before in
      let l = q.later in
      let k = ap (count_of z) r.kept ∙ sum_by-append (λ (e : EndView). once (same_end z (end_name e))) s.task.retired r.spent in
      omega (arith, n, b, l, k)

  known_again : (xs ys : List Thread) (s : Step m a xs ys) → IsKnownIn xs s.task →
      (k : Thread) → AreKnownSpent s.task s.after k → IsKnownIn ys k
  known_again xs ys s was k known z h c = by (known z h c)
    where
      by : (0 < count_of z s.after.retired) ⊎ ((0 < held_state z s.task.now.state) × (count_of z s.task.bag ≡ 0)) →
          0 < sum_by (spent_in z) ys
      by (inl n) = let l = (sums (spent_in z) xs ys s).later in omega (arith, n, l)
      by (inr q) = spent_grow z xs ys s (was z q.0 q.1)

  step_known : (xs ys : List Thread) → Step m a xs ys → All (IsKnownIn xs) xs → All (IsKnownIn ys) ys
  step_known xs ys s all =
      let one = known_again xs ys s (first_of_all (IsKnownIn xs) xs ys s all) in
      all_again (IsKnownIn ys) xs ys s (one s.after s.goes.turn.known)
      (All-weaker (AreKnownSpent s.task s.after) (IsKnownIn ys) one s.new s.goes.turn.known_new)
      (All-weaker (IsKnownIn xs) (IsKnownIn ys) (λ k h z n c. spent_grow z xs ys s (h z n c)) s.rest
      (rest_of_all (IsKnownIn xs) xs ys s all))

  -- ---- all threads

  -- nothing is left out by a step
  pub step_whole : (main : Birth) (xs ys : List Thread) → Step m a xs ys → All (FitsIn m a) xs → Whole m main xs → Whole m main ys
  step_whole main xs ys s all whole =
      let f = first_of_all (FitsIn m a) xs ys s all in
      let r = s.goes.turn in
      record {
        births = λ w.
            let p = sums (λ (x : Thread). w (birth x)) xs ys s in
            let q = sums (bears m w) xs ys s in
            omega (
              arith,
              p.before,
              p.later,
              q.before,
              q.later,
              whole.births w,
              bears_grow w s.task s.after s.new r f,
              same_birth w s.task s.after s.new r,
              r.born w,
              sum_none (bears m w) Empty (none_born w) s.new r.idle,
            );
        typed = λ side w.
            let p = sums (of_ends (by_type side w)) xs ys s in
            let q = sums (opens m w) xs ys s in
            omega (
              arith,
              p.before,
              p.later,
              q.before,
              q.later,
              whole.typed side w,
              opens_grow w s.task s.after s.new r,
              r.typed side w,
              sum_none (opens m w) Empty (none_opened w) s.new r.idle,
            );
        cells = λ w.
            let p = sums (of_ends (by_cell Left w)) xs ys s in
            let q = sums (of_ends (by_cell Right w)) xs ys s in
            omega (arith, p.before, p.later, q.before, q.later, whole.cells w, r.cells w);
        exchanged = λ w.
            let p = sums (of_ends (by_exchanges w)) xs ys s in
            let q = sums (trades w) xs ys s in
            omega (
              arith,
              p.before,
              p.later,
              q.before,
              q.later,
              whole.exchanged w,
              trades_grow w s.task s.after s.new r f,
              r.exchanged w,
              sum_none (trades w) Empty (none_traded w) s.new r.idle,
            );
        known = step_known xs ys s whole.known;
      }

  -- nor where threads are dealt out
  pub moved_whole : (main : Birth) (xs ys : List Thread) → IsPermutation xs ys → Whole m main xs → Whole m main ys
  moved_whole main xs ys p whole = record {
    births = λ w.
        let b = sum_by-IsPermutation (λ (x : Thread). w (birth x)) xs ys p in
        let c = sum_by-IsPermutation (bears m w) xs ys p in
        omega (arith, b, c, whole.births w);
    typed = λ side w.
        let b = sum_by-IsPermutation (of_ends (by_type side w)) xs ys p in
        let c = sum_by-IsPermutation (opens m w) xs ys p in
        omega (arith, b, c, whole.typed side w);
    cells = λ w.
        let b = sum_by-IsPermutation (of_ends (by_cell Left w)) xs ys p in
        let c = sum_by-IsPermutation (of_ends (by_cell Right w)) xs ys p in
        omega (arith, b, c, whole.cells w);
    exchanged = λ w.
        let b = sum_by-IsPermutation (of_ends (by_exchanges w)) xs ys p in
        let c = sum_by-IsPermutation (trades w) xs ys p in
        omega (arith, b, c, whole.exchanged w);
    known = All-permutation (IsKnownIn ys) xs ys p
        (All-weaker (IsKnownIn xs) (IsKnownIn ys)
        (λ k h z n c. let b = sum_by-IsPermutation (spent_in z) xs ys p in let d = h z n c in omega (arith, b, d)) xs
        whole.known);
  }

  turns_fit : (n : ℕ) (xs ys : List Thread) → Turns m a n xs ys → All (FitsIn m a) xs → All (FitsIn m a) ys
  turns_fit zero xs ys t all = All-permutation (FitsIn m a) xs ys t all
  turns_fit (suc n) xs ys t all = step_fits t.0 ys t.2 (turns_fit n xs t.0 t.1 all)

  turns_whole : (n : ℕ) (main : Birth) (xs ys : List Thread) → Turns m a n xs ys → All (FitsIn m a) xs → Whole m main xs →
      Whole m main ys
  turns_whole zero main xs ys t all whole = moved_whole main xs ys t whole
  turns_whole (suc n) main xs ys t all whole = step_whole main t.0 ys t.2 (turns_fit n xs t.0 t.1 all)
      (turns_whole n main xs t.0 t.1 all whole)

  -- all fit after turns
  pub went_fits : (xs ys : List Thread) → Went m a xs ys → All (FitsIn m a) xs → All (FitsIn m a) ys
  went_fits xs ys w all = turns_fit w.count xs ys w.turns all

  -- and nothing is left out
  pub went_whole : (main : Birth) (xs ys : List Thread) → Went m a xs ys → All (FitsIn m a) xs → Whole m main xs → Whole m main ys
  went_whole main xs ys w all whole = turns_whole w.count main xs ys w.turns all whole
