-- Tasks that are told, one after the other.
use Rattle.std.proofs.Common.{◌≡◌, ◌∙◌, ◌⊎◌, ℕ, List, [], ◌∷◌, ◌++◌, refl, sym, subst, arith}
use Rattle.std.specs.Prelude.{Contains}
use Rattle.std.proofs.lemmas.List.{append-nil, append_assoc}
use Rattle.std.proofs.lemmas.List.Elements.{Contains-append_right}
use Rattle.fst_terms.specs.declared.core_module.Module.{Module}
use Rattle.fst_derivations.specs.Rules.{Surroundings}
use Rattle.fst_types.specs.declared.event.ChannelHistory.{ChannelHistory}
use Rattle.fst_machine.specs.declared.code.Code.{Code}
use Rattle.fst_vm.specs.TaskView.{TaskView}
use Rattle.fst_process.specs.Resuming.{Tasks}
use Rattle.fst_cell.specs.declared.answers.Closed.{Closed}
use Rattle.fst_safety.specs.Tasks.{module_of}
use Rattle.fst_safety.specs.Threads.{Thread}
use Rattle.fst_records.specs.Records.{Course}
use Rattle.fst_worker.specs.declared.ending.Bare.{Bare}
use Rattle.fst_worker.specs.declared.ending.TaskLog.{TaskLog}
use Rattle.fst_worker.specs.Records.{histories_of}
use Rattle.fst_worker.specs.Configs.{Stayed, Told, AreTold}
use Rattle.fst_worker.specs.Resumes.{IsTaskOf, AreTasksOf}
use Rattle.fst_worker.specs.Ending.{IsBareOf, AreBareOf, IsLogOf, AreLogsOf, IsTellable, IsToldTo, AreTellable, AreToldTo}

-- one more thread is told
told_more : (m : Surroundings) (ks : List ChannelHistory) (xs : List Thread) (ys : List Course) (x : Thread) (y : Course) →
    AreTold m ks xs ys →
    Stayed ks x y ⊎ Told m ks x y → AreTold m ks (xs ++ (x ∷ [])) (ys ++ (y ∷ []))
told_more m ks [] [] x y h d = (d, tt)
told_more m ks [] (z ∷ ys) x y h d = absurd h
told_more m ks (z ∷ xs) [] x y h d = absurd h
told_more m ks (z ∷ xs) (u ∷ ys) x y h d = (h.0, told_more m ks xs ys x y h.1 d)

-- one more task is that of a course
tasks_more : (m : Module) (k : Code) (ts : Tasks) (ys : List Course) (t : TaskView) (clock : ℕ) (y : Course) →
    AreTasksOf m k ts ys → IsTaskOf m k t clock y →
    AreTasksOf m k (ts ++ ((t, clock) ∷ [])) (ys ++ (y ∷ []))
tasks_more m k [] [] t clock y h d = (d, tt)
tasks_more m k [] (z ∷ ys) t clock y h d = absurd h
tasks_more m k (u ∷ ts) [] t clock y h d = absurd h
tasks_more m k (u ∷ ts) (z ∷ ys) t clock y h d = (h.0, tasks_more m k ts ys t clock y h.1 d)

-- one more log is that of a course
logs_more : (ls : List TaskLog) (ys : List Course) (l : TaskLog) (y : Course) → AreLogsOf ls ys → IsLogOf l y →
    AreLogsOf (ls ++ (l ∷ [])) (ys ++ (y ∷ []))
logs_more [] [] l y h d = (d, tt)
logs_more [] (z ∷ ys) l y h d = absurd h
logs_more (j ∷ ls) [] l y h d = absurd h
logs_more (j ∷ ls) (z ∷ ys) l y h d = (h.0, logs_more ls ys l y h.1 d)

module _ (k : Code) (bs : List Bare) (cs : List Closed) (d : AreTellable k bs cs) where
  -- some threads are told, and the others are those of the tasks that are left
  pub record IsToldAsFar (rs : List Bare) (ts : Tasks) (ls : List TaskLog) : Type 0 where
    pub done : List Thread
    pub rest : List Thread
    pub all : d.run.threads ≡ done ++ rest
    pub left : AreBareOf k rs rest
    pub told : AreToldTo k (histories_of d.run.pairs) done ts ls

  pub none_told : IsToldAsFar bs [] []
  none_told = record {
    done = [];
    rest = d.run.threads;
    all = refl;
    left = d.bare;
    told =
        record { after = []; told = tt; tasks = tt; logs = tt };
  }

  pub all_told : (ts : Tasks) (ls : List TaskLog) → IsToldAsFar [] ts ls →
      AreToldTo k (histories_of d.run.pairs) d.run.threads ts ls
  all_told ts ls p = by p.rest p.all p.left
    where
      by : (rest : List Thread) → d.run.threads ≡ p.done ++ rest → AreBareOf k [] rest →
          AreToldTo k (histories_of d.run.pairs) d.run.threads ts ls
      by [] all left = subst (λ xs. AreToldTo k (histories_of d.run.pairs) xs ts ls) (sym (all ∙ append-nil p.done)) p.told
      by (x ∷ xs) all left = absurd left

  module _ (b : Bare) (rs : List Bare) (ts : Tasks) (ls : List TaskLog) where
    -- the next thread is one of the run, and this is its task
    pub record Next (p : IsToldAsFar (b ∷ rs) ts ls) : Type 0 where
      pub thread : Thread
      pub others : List Thread
      pub all : d.run.threads ≡ p.done ++ (thread ∷ others)
      pub bare : IsBareOf k b thread
      pub left : AreBareOf k rs others

    next : (p : IsToldAsFar (b ∷ rs) ts ls) → Next p
    next p = by p.rest p.all p.left
      where
        by : (rest : List Thread) → d.run.threads ≡ p.done ++ rest → AreBareOf k (b ∷ rs) rest → Next p
        by [] all left = absurd left
        by (x ∷ xs) all left = record { thread = x; others = xs; all = all; bare = left.0; left = left.1 }

    pub tellable : IsToldAsFar (b ∷ rs) ts ls → IsTellable k b cs
    tellable p =
        let n = next p in
        record {
          run = d.run;
          thread = n.thread;
          there = subst (λ xs. Contains xs n.thread) (sym n.all)
              (Contains-append_right p.done (n.thread ∷ n.others) n.thread (0, omega arith, refl));
          bare = n.bare;
        }

    -- one more is told
    pub told_next : IsToldAsFar (b ∷ rs) ts ls → (t : TaskView) (clock : ℕ) (l : TaskLog) →
        ((d : IsTellable k b cs) → IsToldTo k (histories_of d.run.pairs) d.thread t clock l) →
        IsToldAsFar rs (ts ++ ((t, clock) ∷ [])) (ls ++ (l ∷ []))
    unfolding tellable next
    told_next p t clock l told =
        let n = next p in
        let h = told (tellable p) in
        record {
          done = p.done ++ (n.thread ∷ []);
          rest = n.others;
          all = n.all ∙ sym (append_assoc p.done (n.thread ∷ []) n.others);
          left = n.left;
          told = record {
            after = p.told.after ++ (h.after ∷ []);
            told = told_more (module_of k) (histories_of d.run.pairs) p.done p.told.after n.thread h.after p.told.told h.told;
            tasks = tasks_more k.module.value k ts p.told.after t clock h.after p.told.tasks h.task;
            logs = logs_more ls p.told.after l h.after p.told.logs h.log;
          };
        }
