-- Many turns, put together; and how each thread goes on by them.
use Rattle.std.proofs.Common.{ℕ, zero, suc, List, [], ◌∷◌, ◌++◌, refl, sym, ap, ◌∙◌, subst, append_assoc}
use Rattle.std.specs.Prelude.{All, Contains, IsPermutation}
use Rattle.std.proofs.lemmas.List.{append-nil}
use Rattle.std.proofs.lemmas.List.Elements.{All-contains, All-contains_itself, All-weaker, All-cons, Contains-append_right}
use Rattle.std.proofs.lemmas.List.Sorted.{All-permutation, Contains-permutation, IsPermutation-refl, IsPermutation-sym, IsPermutation-trans, IsPermutation-append_left, IsPermutation-append_comm}
use Rattle.fst_types.specs.Tree.{Tree}
use Rattle.fst_base.proofs.Lists.{contains_head, contains_tail}
use Rattle.fst_derivations.specs.Rules.{Surroundings}
use Rattle.fst_cell.specs.End.{EndView}
use Rattle.fst_runs.specs.declared.log.LogEntry.{LogEntry}
use Rattle.fst_safety.specs.Threads.{Thread}
use Rattle.fst_safety.specs.Turns.{Turn}
use Rattle.fst_worker.specs.Works.{Step, Turns, Went, IsLonger, GoesOnIn}

-- ---- each thread by itself

longer_itself : (x : Thread) → IsLonger x x
longer_itself x = record {
  path = refl;
  first = refl;
  gained = [];
  log = sym (append-nil x.log);
  spent = [];
  kept =
      sym (append-nil x.retired);
}

longer_then : (x y z : Thread) → IsLonger x y → IsLonger y z → IsLonger x z
longer_then x y z p q = record {
  path = q.path ∙ p.path;
  first = q.first ∙ p.first;
  gained = p.gained ++ q.gained;
  log = q.log ∙ ap (λ (l : List LogEntry). l ++ q.gained) p.log ∙ append_assoc x.log p.gained q.gained;
  spent = p.spent ++ q.spent;
  kept = q.kept ∙ ap (λ (l : List EndView). l ++ q.spent) p.kept ∙ append_assoc x.retired p.spent q.spent;
}

longer_by : (m : Surroundings) (x y : Thread) (new : List Thread) → Turn m x y new → IsLonger x y
longer_by m x y new r = record { path = r.path; first = r.first; gained = r.gained; log = r.log; spent = r.spent; kept = r.kept }

moves_in : (xs ys : List Thread) → ((x : Thread) → Contains xs x → Contains ys x) → All (GoesOnIn ys) xs
moves_in xs ys h = All-weaker (Contains xs) (GoesOnIn ys) (λ x c. (x, h x c, longer_itself x)) xs (All-contains_itself xs)

goes_then : (ys zs : List Thread) → All (GoesOnIn zs) ys → (x : Thread) → GoesOnIn ys x → GoesOnIn zs x
goes_then ys zs all x (y, c, p) =
    let k = All-contains (GoesOnIn zs) ys y all c in
    (k.0, k.1, longer_then x y k.0 p k.2)

module _ (m : Surroundings) (a : Tree) where
  step_in : (xs ys : List Thread) → Step m a xs ys → All (GoesOnIn ys) xs
  step_in xs ys s =
      let all = s.after ∷ (s.new ++ s.rest) in
      let there = λ (x : Thread) (c : Contains all x). Contains-permutation all ys x s.after_is c in
      All-permutation (GoesOnIn ys) (s.task ∷ s.rest) xs (IsPermutation-sym xs (s.task ∷ s.rest) s.before_is)
      (All-cons (GoesOnIn ys) s.task s.rest (
        s.after,
        there s.after (contains_head (s.new ++ s.rest) s.after s.after refl),
        longer_by m s.task s.after s.new s.goes.turn,
      )
      (moves_in s.rest ys (λ x c. there x (contains_tail (s.new ++ s.rest) x s.after (Contains-append_right s.new s.rest x c)))))

  turns_in : (n : ℕ) (xs ys : List Thread) → Turns m a n xs ys → All (GoesOnIn ys) xs
  turns_in zero xs ys t = moves_in xs ys (λ x c. Contains-permutation xs ys x t c)
  turns_in (suc n) xs ys t = All-weaker (GoesOnIn t.0) (GoesOnIn ys) (goes_then t.0 ys (step_in t.0 ys t.2)) xs
      (turns_in n xs t.0 t.1)

  -- each thread is there afterwards, with a longer log
  pub went_in : (xs ys : List Thread) → Went m a xs ys → All (GoesOnIn ys) xs
  went_in xs ys w = turns_in w.count xs ys w.turns

  -- ---- many turns

  -- threads go on by no turn to themselves
  pub went_none : (xs : List Thread) → Went m a xs xs
  went_none xs = record { count = 0; turns = IsPermutation-refl xs }

  -- threads that are dealt out go on by no turn
  pub went_moved : (xs ys : List Thread) → IsPermutation xs ys → Went m a xs ys
  went_moved xs ys p = record { count = 0; turns = p }

  turns_right : (n : ℕ) (xs ys zs : List Thread) → Turns m a n xs ys → IsPermutation ys zs → Turns m a n xs zs
  turns_right zero xs ys zs t p = IsPermutation-trans xs ys zs t p
  turns_right (suc n) xs ys zs t p =
      let s = t.2 in (
        t.0,
        t.1,
        record {
          task = s.task;
          after = s.after;
          new = s.new;
          rest = s.rest;
          goes = s.goes;
          before_is = s.before_is;
          after_is = IsPermutation-trans (s.after ∷ (s.new ++ s.rest)) ys zs s.after_is p;
        },
      )

  turns_then : (n k : ℕ) (xs ys zs : List Thread) → Turns m a n xs ys → Turns m a k ys zs → Went m a xs zs
  turns_then n zero xs ys zs t u = record { count = n; turns = turns_right n xs ys zs t u }
  turns_then n (suc k) xs ys zs t u =
      let w = turns_then n k xs ys u.0 t u.1 in
      record { count = suc w.count; turns = (u.0, w.turns, u.2) }

  -- one after the other
  pub went_then : (xs ys zs : List Thread) → Went m a xs ys → Went m a ys zs → Went m a xs zs
  went_then xs ys zs t u = turns_then t.count u.count xs ys zs t.turns u.turns

  -- one turn
  pub went_step : (xs ys : List Thread) → Step m a xs ys → Went m a xs ys
  went_step xs ys s = record { count = 1; turns = (xs, IsPermutation-refl xs, s) }

  step_beside : (xs ys zs : List Thread) → Step m a xs ys → Step m a (xs ++ zs) (ys ++ zs)
  step_beside xs ys zs s = record {
    task = s.task;
    after = s.after;
    new = s.new;
    rest = s.rest ++ zs;
    goes = s.goes;
    before_is = IsPermutation-append_left zs xs (s.task ∷ s.rest) s.before_is;
    after_is = subst (λ (l : List Thread). IsPermutation (s.after ∷ l) (ys ++ zs)) (append_assoc s.new s.rest zs)
        (IsPermutation-append_left zs (s.after ∷ (s.new ++ s.rest)) ys s.after_is);
  }

  turns_beside : (n : ℕ) (xs ys zs : List Thread) → Turns m a n xs ys → Turns m a n (xs ++ zs) (ys ++ zs)
  turns_beside zero xs ys zs t = IsPermutation-append_left zs xs ys t
  turns_beside (suc n) xs ys zs t = (t.0 ++ zs, turns_beside n xs t.0 zs t.1, step_beside t.0 ys zs t.2)

  -- beside others
  pub went_beside : (xs ys zs : List Thread) → Went m a xs ys → Went m a (xs ++ zs) (ys ++ zs)
  went_beside xs ys zs w = record { count = w.count; turns = turns_beside w.count xs ys zs w.turns }

  -- what two parts did, each for itself
  pub went_both : (xs ys us vs : List Thread) → Went m a xs ys → Went m a us vs → Went m a (xs ++ us) (ys ++ vs)
  went_both xs ys us vs p q =
      went_then (xs ++ us) (ys ++ us) (ys ++ vs) (went_beside xs ys us p)
      (went_then (ys ++ us) (us ++ ys) (ys ++ vs) (went_moved (ys ++ us) (us ++ ys) (IsPermutation-append_comm ys us))
      (went_then (us ++ ys) (vs ++ ys) (ys ++ vs) (went_beside us vs ys q)
      (went_moved (vs ++ ys) (ys ++ vs) (IsPermutation-append_comm vs ys))))
