-- A run on several workers: its tasks and their threads, from round to round.
use Rattle.std.proofs.Common.{◌≡◌, ◌∙◌, ℕ, List, [], ◌∷◌, ◌++◌, length, refl, sym, subst, arith}
use Rattle.std.specs.List.Sorted.{apply_swaps, SwapsInRange}
use Rattle.std.specs.Prelude.{All, IsPermutation}
use Rattle.std.proofs.lemmas.List.Edits.{length-swap}
use Rattle.std.proofs.lemmas.List.Elements.{All-nil, All-cons}
use Rattle.std.proofs.lemmas.List.Sorted.{All-permutation}
use Rattle.fst_machine.specs.declared.code.Code.{Code}
use Rattle.fst_safety.specs.declared.tasks.TypedTask.{TypedTask}
use Rattle.fst_safety.specs.Tasks.{CanBegin, IsBegun, main_thread, module_of}
use Rattle.fst_safety.specs.Threads.{Thread, FitsIn}
use Rattle.fst_safety.specs.Turns.{birth}
use Rattle.fst_worker.specs.declared.shares.Share.{Share}
use Rattle.fst_worker.specs.Dealing.{IsDealt}
use Rattle.fst_worker.specs.Finishing.{AreRunOf}
use Rattle.fst_worker.specs.Shares.{AreKept, CanMove, GoOn, all_tasks}
use Rattle.fst_worker.specs.Working.{AreAtWork}
use Rattle.fst_worker.specs.Works.{Went}
use Rattle.fst_worker.proofs.Chains.{went_moved, went_then, went_beside}
use Rattle.fst_worker.proofs.Crews.{All-first, AreBoth, kept_length, kept_append, kept_split, kept_swap}
use Rattle.fst_worker.proofs.Starting.{begins_so}
use Rattle.fst_worker.proofs.Wholes.{went_fits, went_whole}

-- ---- tasks in another order

module _ (k : Code) where
  length_moves : (ts : List TypedTask) (ms : List (ℕ × ℕ)) → length (apply_swaps ts ms) ≡ length ts
  length_moves ts [] = refl
  length_moves ts (p ∷ ms) = length-swap (apply_swaps ts ms) p.0 p.1 ∙ length_moves ts ms

  kept_moves : (ts : List TypedTask) (xs : List Thread) (ms : List (ℕ × ℕ)) → AreKept k ts xs → SwapsInRange (length ts) ms →
      AreKept k (apply_swaps ts ms) (apply_swaps xs ms)
  kept_moves ts xs [] h below = h
  kept_moves ts xs (p ∷ ms) h below =
      let n = length_moves ts ms in
      kept_swap k (apply_swaps ts ms) (apply_swaps xs ms) p.0 p.1 (kept_moves ts xs ms h below.2) (omega (arith, n, below.0))
      (omega (arith, n, below.1))

  -- their threads are so, too
  pub record AreMoved (us : List TypedTask) (xs : List Thread) : Type 0 where
    pub threads : List Thread
    pub moved : IsPermutation xs threads
    pub kept : AreKept k us threads

  pub kept_moved : (ts us : List TypedTask) (xs : List Thread) → IsPermutation ts us → AreKept k ts xs → AreMoved us xs
  kept_moved ts us xs p h = record {
    threads = apply_swaps xs p.moves;
    moved = record {
      moves = p.moves;
      below = subst (λ n. SwapsInRange n p.moves) (sym (kept_length k ts xs h)) p.below;
      is =
          refl;
    };
    kept = subst (λ us. AreKept k us (apply_swaps xs p.moves)) (sym p.is) (kept_moves ts xs p.moves h p.below);
  }

-- ---- from round to round

module _ (k : Code) (d : CanBegin k) where
  -- the task of main is a run by itself
  pub begins : (t : TypedTask) → IsBegun k t → AreAtWork k d (t ∷ [])
  begins t begun =
      let f = begun d.type d.main d.code d.body in
      record {
        threads = main_thread d.main ∷ [];
        kept = (f.keeps, tt);
        run = record {
          root = refl;
          fit = All-cons (FitsIn (module_of k) d.type) (main_thread d.main) [] f.fits (All-nil (FitsIn (module_of k) d.type));
          whole = begins_so.whole (module_of k) d.main;
        };
      }

  -- tasks at work are those of a run that can be finished
  abbrev pub runs : (ts : List TypedTask) → AreAtWork k d ts → AreRunOf k ts
  runs ts w = record {
    type = d.type;
    code = d.code;
    main = birth (main_thread d.main);
    begins = refl;
    threads = w.threads;
    kept =
        w.kept;
    run = w.run;
  }

  module _ (ts es : List TypedTask) (w : AreAtWork k d (ts ++ es)) (ss : List Share) (dealt : IsDealt ts ss) where
    abbrev P : Thread → Type 0
    P = FitsIn (module_of k) d.type

    parts : AreBoth k ts es w.threads
    parts = kept_split k ts es w.threads w.kept

    moved : AreMoved k (all_tasks ss) parts.first
    moved = kept_moved k ts (all_tasks ss) parts.first dealt.tasks parts.keeps

    fit : All P moved.threads
    fit = All-permutation P parts.first moved.threads moved.moved
        (All-first P parts.first parts.second (subst (All P) parts.is w.run.fit))

    -- the shares can be moved
    pub can_move : CanMove k ss
    can_move = record { type = d.type; code = d.code; threads = moved.threads; kept = moved.kept; fit = fit }

    -- and what was moved and taken in again are all tasks of the run
    pub moves : (us : List Share) → GoOn k ss us →
        (now over : List TypedTask) → IsPermutation (all_tasks us ++ es) (now ++ over) → AreAtWork k d (now ++ over)
    moves us goes now over taken =
        let g = goes d.type moved.threads d.code moved.kept fit in
        let again = kept_moved k (all_tasks us ++ es) (now ++ over) (g.0 ++ parts.second) taken
        (kept_append k (all_tasks us) es g.0 parts.second g.1 parts.others) in
        let one = went_then (module_of k) d.type parts.first moved.threads g.0
        (went_moved (module_of k) d.type parts.first moved.threads moved.moved) g.2 in
        let two = went_beside (module_of k) d.type parts.first g.0 parts.second one in
        let all : Went (module_of k) d.type w.threads again.threads =
        subst (λ xs. Went (module_of k) d.type xs again.threads) (sym parts.is)
        (went_then (module_of k) d.type (parts.first ++ parts.second) (g.0 ++ parts.second) again.threads two
        (went_moved (module_of k) d.type (g.0 ++ parts.second) again.threads again.moved)) in
        record {
          threads = again.threads;
          kept = again.kept;
          run = record {
            root = w.run.root;
            fit = went_fits (module_of k) d.type w.threads again.threads all w.run.fit;
            whole = went_whole (module_of k) d.type (birth (main_thread d.main)) w.threads again.threads all w.run.fit
                w.run.whole;
          };
        }
