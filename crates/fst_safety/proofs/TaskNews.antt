-- What a channel and a fork come to, for each thread that the task was.
use Rattle.std.proofs.Common.{◌≡◌, ◌∙◌, ◌<◌, ℕ, suc, ◌+◌, List, [], ◌∷◌, ◌++◌, Bool, true, false, Some, Ok, Contains, refl, sym, ap, subst, arith}
use Rattle.std.specs.Prelude.{IsPermutation, slice_get}
use Rattle.std.proofs.lemmas.List.{length_push}
use Rattle.fst_types.specs.Tree.{Tree}
use Rattle.fst_types.specs.declared.side.Side.TheVariants.{Left, Right}
use Rattle.fst_kinds.specs.WellFormed.{IsSession}
use Rattle.fst_lts.specs.Step.{terminated}
use Rattle.fst_lts.specs.Dual.{dual}
use Rattle.fst_derivations.specs.Rules.{Surroundings}
use Rattle.fst_types.specs.declared.ends.ChannelName.{ChannelName}
use Rattle.fst_types.specs.declared.ends.EndName.{EndName}
use Rattle.fst_machine.specs.declared.code.Code.{Code}
use Rattle.fst_machine.specs.declared.request.Request.TheVariants as request
use Rattle.fst_machine.specs.declared.request.Answer.TheVariants.{Made, Forked as Told}
use Rattle.fst_machine.specs.Machine.{State, Pause, stuck, calls, uses, makes, forks, puts, gets, closes, waits, matches, ended, pause, asked, child}
use Rattle.fst_machine.specs.Machine as machine
use Rattle.fst_machine.specs.Programs.{program}
use Rattle.fst_vm.specs.Moves.{ends_in_slots}
use Rattle.fst_vm.specs.TaskView.{TaskView}
use Rattle.fst_vm.specs.Tasks.{IsIn, Takes, Forks, IsChild}
use Rattle.fst_runs.specs.Configs.{channel_name, child_path, new_task}
use Rattle.fst_runs.specs.Wrong.{held_state, held_frames}
use Rattle.fst_cell.specs.End.{EndView, residual_of}
use Rattle.fst_cell.specs.Rule.{fresh}
use Rattle.fst_safety.specs.declared.tasks.TypedTask.{TypedTask}
use Rattle.fst_safety.specs.declared.tasks.Turned.TheVariants.{Moved, Forked}
use Rattle.fst_safety.specs.Fitting.{Residuals}
use Rattle.fst_safety.specs.Pauses.{Allowed}
use Rattle.fst_safety.specs.Threads.{Thread}
use Rattle.fst_safety.specs.Going.{GoesOnTo, with_entry}
use Rattle.fst_safety.specs.Bags.{IsPutBack, put_by, AreParted}
use Rattle.fst_safety.specs.Tasks.{Fits, AsksNow, AreNew, IsDeclarable, HasGoneOn, HasTurned, module_of, offers, tries_at}
use Rattle.fst_safety.proofs.Checked.{checked}
use Rattle.fst_safety.proofs.Answered.{not_stuck, forked_typed}
use Rattle.fst_safety.proofs.Settles.{pause_goes}
use Rattle.fst_safety.proofs.Going.{stay_typed}
use Rattle.fst_safety.proofs.Keeping.{asks_it, alive_in, takes_it, keeps_it}
use Rattle.fst_safety.proofs.SlotEnds.{slots_ends}
use Rattle.fst_safety.proofs.ThreadOpenings.{left_residual, right_residual}
use Rattle.fst_safety.proofs.Tries.{made_sum, parted_sum}
use Rattle.fst_safety.proofs.Told.{told_made, told_forked}

-- ---- a channel

-- where a new channel is asked for its type is a session type
pub is_declared : (m : Surroundings) (r : Residuals) (p : Pause) (t : Tree) (j : ℕ) → Allowed m r p t →
    asked p ≡ Some (request.New j) → (d : Tree) × (slice_get m.types j ≡ Some d) × IsSession [] d
is_declared m r stuck t j h e = absurd h
is_declared m r (calls b env v fs) t j h e = absurd (cc e)
is_declared m r (uses g fs) t j h e = absurd (cc e)
is_declared m r (makes k fs) t j h e =
    let same : k ≡ j = cc e in
    (h.0, ap (slice_get m.types) (sym same) ∙ h.1, h.2)
is_declared m r (forks b env fs) t j h e = absurd (cc e)
is_declared m r (puts x ev fs) t j h e = absurd (cc e)
is_declared m r (gets x fs) t j h e = absurd (cc e)
is_declared m r (closes x fs) t j h e = absurd (cc e)
is_declared m r (waits x fs) t j h e = absurd (cc e)
is_declared m r (matches x bs env fs) t j h e = absurd (cc e)
is_declared m r (ended v) t j h e = absurd (cc e)

pub declarable : (k : Code) (a : Tree) (t : TypedTask) (x : Thread) → Fits k a t x →
    (j : ℕ) → AsksNow k t (request.New j) → IsDeclarable k j
declarable k a t x f j now =
    let p = (pause_goes (module_of k) (checked k.module.value f.code.derivations f.code.derived) f.fits.typed.residuals
    x.now.state
    f.fits.typed.type f.fits.typed.typed).0 in
    let d = is_declared (module_of k) f.fits.typed.residuals
    (pause k.module.value.families.items x.now.state) f.fits.typed.type j p (asks_it k a t x f (request.New j) now) in
    (d.0, ap (λ ts. slice_get ts j) f.code.from.same_types ∙ d.1, d.2)

-- few were made
pub few_made : (k : Code) (a : Tree) (t : TypedTask) (x : Thread) → Fits k a t x → t.clock < 4294967295 → t.made < 4294967295
few_made k a t x f few = let m = f.fits.made in let c = f.keeps.clock in let d = f.keeps.made in omega (arith, few, m, c, d)

-- each end can be put somewhere
put_somewhere : (e : EndView) (s : Tree) → residual_of e.knows ≡ Some s → (es spent : List EndView) → (bag : List EndView) ×
    (retired : List EndView) × IsPutBack e es spent bag retired
put_somewhere e s is es spent = go (terminated s) refl
  where
    go : (b : Bool) → terminated s ≡ b → (bag : List EndView) × (retired : List EndView) × IsPutBack e es spent bag retired
    go true q = (es, spent ++ e ∷ [], (s, is, subst (λ b. put_by b e es spent es (spent ++ e ∷ [])) (sym q) (refl, refl)))
    go false q = (es ++ e ∷ [], spent, (s, is, subst (λ b. put_by b e es spent (es ++ e ∷ []) spent) (sym q) (refl, refl)))

module _ (k : Code) (t : TypedTask) (j : ℕ) (now : AsksNow k t (request.New j)) (name again : ChannelName) (l r : EndView)
    (new : AreNew k t j name again l r)
    (a : Tree) (x : Thread) (f : Fits k a t x) (stamp : ℕ) (next : stamp ≡ t.clock + 1) where
  abbrev h : ChannelName
  h = channel_name x.path x.now.made

  named : name ≡ h
  named = new.named ∙ (λ i. channel_name (f.keeps.path i) (f.keeps.made i))

  is : slice_get (module_of k).types j ≡ Some new.declared
  is = ap (λ ts. slice_get ts j) (sym f.code.from.same_types) ∙ new.is

  asks : machine.request (module_of k).families x.now.state ≡ Some (request.New j)
  asks = asks_it k a t x f (request.New j) now

  told : (s : State) × (machine.answered (program k.module.value) x.now.state (Made h) ≡ Some s)
  told = told_made (program k.module.value) (pause k.module.value.families.items x.now.state) j h asks

  left_is : l ≡ record { cell = l.cell; channel = h; knows = fresh Left new.declared }
  left_is = new.left ∙ ap (λ n. record { cell = l.cell; channel = n; knows = fresh Left new.declared }) named

  right_is : r ≡ record { cell = l.cell; channel = h; knows = fresh Right new.declared }
  right_is = new.right ∙ ap (λ n. record { cell = l.cell; channel = n; knows = fresh Right new.declared }) named

  goes : (bag1 ret1 bag ret : List EndView) → IsPutBack l x.bag x.retired bag1 ret1 → IsPutBack r bag1 ret1 bag ret →
      GoesOnTo (module_of k) a x (with_entry (module_of k) x (request.New j) (Made h) stamp bag ret) []
  goes bag1 ret1 bag ret pl pr =
      let late : suc x.now.clock ≡ stamp = let c = f.keeps.clock in omega (arith, c, next) in
      subst (λ n. GoesOnTo (module_of k) a x (with_entry (module_of k) x (request.New j) (Made h) n bag ret) []) late
      (stay_typed.opens k.module.value f.code.derivations f.code.derived a x f.fits j new.declared told.0 l.cell l r bag1 ret1 bag
      ret asks is told.1 left_is right_is pl pr)

  told_name : machine.answered (program k.module.value) x.now.state (Made name) ≡ Some told.0
  told_name = ap (λ n. machine.answered (program k.module.value) x.now.state (Made n)) named ∙ told.1

  abbrev pl : (bag : List EndView) × (retired : List EndView) × IsPutBack l x.bag x.retired bag retired
  pl = put_somewhere l new.declared (ap (λ (e : EndView). residual_of e.knows) new.left ∙ left_residual new.declared) x.bag
      x.retired

  abbrev pr : (bag : List EndView) × (retired : List EndView) × IsPutBack r pl.0 pl.1 bag retired
  pr = put_somewhere r (dual new.declared) (ap (λ (e : EndView). residual_of e.knows) new.right ∙ right_residual new.declared)
      pl.0 pl.1

  pub made_takes : Takes k t.task (Made name)
  made_takes =
      takes_it k a t x f (Made name) told.0 now.0 told_name
      (alive_in k a t x f (request.New j) (Made h) stamp pr.0 pr.1 [] told.0 told.1 (goes pl.0 pl.1 pr.0 pr.1 pl.2 pr.2))
      (λ e. absurd (cc e))

  pub made_turned : (u v : TypedTask) (bag1 ret1 : List EndView) → HasGoneOn k t (request.New j) (Made name) stamp u →
      v.task ≡ u.task → v.made ≡ suc t.made → v.clock ≡ u.clock →
      v.log.items ≡ u.log.items → u.bag.items ≡ t.bag.items → u.retired.items ≡ t.retired.items →
      IsPutBack l u.bag.items u.retired.items bag1 ret1 →
      IsPutBack r bag1 ret1 v.bag.items v.retired.items → HasTurned k a (Ok Moved) v x
  made_turned u v bag1 ret1 on task made clock log bag retired ql qr =
      let ql' = subst (λ es. IsPutBack l es x.retired bag1 ret1) (bag ∙ f.keeps.bag)
      (subst (λ es. IsPutBack l u.bag.items es bag1 ret1) (retired ∙ f.keeps.retired) ql) in
      let g = goes bag1 ret1 v.bag.items v.retired.items ql' qr in
      let on' : HasGoneOn k t (request.New j) (Made h) stamp u = subst
      (λ n. HasGoneOn k t (request.New j) (Made n) stamp u) named on in
      record {
        after = with_entry (module_of k) x (request.New j) (Made h) stamp v.bag.items v.retired.items;
        new = [];
        goes = g;
        keeps = keeps_it k a t x f (request.New j) (Made h) stamp v.bag.items v.retired.items [] told.0 u v told.1 g on' task made
            clock log refl refl;
        done =
            let b = made_sum offers x l r bag1 ret1 v.bag.items v.retired.items ql' qr in
            let n = length_push x.log (record { asked = request.New j; answer = Made h; stamp = stamp }) in
            omega (arith, b, n);
        tries = λ z. let b = made_sum (tries_at z) x l r bag1 ret1 v.bag.items v.retired.items ql' qr in omega (arith, b);
        answers = (record { entry = record { asked = request.New j; answer = Made h; stamp = stamp }; is = refl }, refl);
      }

-- ---- a fork

-- a task that is forked has no frames
no_frames : (p : Pause) (b : State) → child p ≡ Some b → b.frames ≡ []
no_frames stuck b e = absurd (cc e)
no_frames (calls c env v fs) b e = absurd (cc e)
no_frames (uses g fs) b e = absurd (cc e)
no_frames (makes k fs) b e = absurd (cc e)
no_frames (forks c env fs) b e = let same : record { term = c; environment = env; frames = [] } ≡ b = cc e in ap
    (λ (s : State). s.frames) (sym same)
no_frames (puts x ev fs) b e = absurd (cc e)
no_frames (gets x fs) b e = absurd (cc e)
no_frames (closes x fs) b e = absurd (cc e)
no_frames (waits x fs) b e = absurd (cc e)
no_frames (matches x bs env fs) b e = absurd (cc e)
no_frames (ended v) b e = absurd (cc e)

module _ (k : Code) (t : TypedTask) (now : AsksNow k t request.Fork) (few : t.clock < 4294967295) (a : Tree) (x : Thread)
    (f : Fits k a t x) where
  asks_fork : machine.request (module_of k).families x.now.state ≡ Some request.Fork
  asks_fork = asks_it k a t x f request.Fork now

  told_fork : (b : State) × (s : State) × (child (pause k.module.value.families.items x.now.state) ≡ Some b) ×
      (machine.answered (program k.module.value) x.now.state Told ≡ Some s)
  told_fork = told_forked (program k.module.value) (pause k.module.value.families.items x.now.state) asks_fork

  few_forked : t.task.forked < 4294967295
  few_forked = let m = f.fits.forked in let c = f.keeps.clock in let d = f.keeps.forked in omega (arith, few, m, c, d)

  pub forks_now : Forks k t.task
  forks_now = record {
    rests = now.0;
    source = k.module.value;
    from = f.code.from;
    state = x.now.state;
    is_in = f.keeps.is_in;
    asks = asks_fork;
    few = few_forked;
  }

  -- the state after the fork is typed
  alive : pause k.module.value.families.items told_fork.1 ≡ stuck → ⊥
  alive =
      let m = module_of k in
      let well = checked k.module.value f.code.derivations f.code.derived in
      let r = f.fits.typed.residuals in
      let ty = f.fits.typed.type in
      let parts = forked_typed m well x.now.state ty told_fork.1 r told_fork.0 f.fits.typed.typed told_fork.2 told_fork.3 in
      not_stuck m well told_fork.1 ty r parts.0

  pub fork_takes : Takes k t.task Told
  fork_takes = takes_it k a t x f Told told_fork.1 now.0 told_fork.3 alive (λ e. few_forked)

  module _ (w : TaskView) (ch : IsChild k t.task w) (names : List EndName) (are : names ≡ ends_in_slots w.spot.slots) (stamp : ℕ)
      (next : stamp ≡ t.clock + 1)
      (u v : TypedTask) (on : HasGoneOn k t request.Fork Told stamp u) (task : v.task ≡ u.task) (made : v.made ≡ u.made)
      (clock : v.clock ≡ u.clock) (log : v.log.items ≡ u.log.items)
      (retired : v.retired.items ≡ t.retired.items) (theirs : List EndView)
      (p : AreParted names t.bag.items v.bag.items theirs) where
    abbrev b : State
    b = told_fork.0

    -- the child's names are the ends that it holds
    they_are : (z : EndName) → (Contains names z → 0 < held_state z b) × (0 < held_state z b → Contains names z)
    they_are z =
        let e = slots_ends _ w.spot.slots b.environment
        (ch.alike k.module.value x.now.state b f.code.from f.keeps.is_in told_fork.2) z in
        let none : held_frames z b.frames ≡ 0 = ap (held_frames z)
        (no_frames (pause k.module.value.families.items x.now.state) b told_fork.2) in (
          λ c. let g = e.0 (subst (λ ns. Contains ns z) are c) in omega (arith, g, none),
          λ c. subst (λ ns. Contains ns z) (sym are) (e.1 (omega (arith, c, none))),
        )

    abbrev begun : ℕ → Thread
    begun n = record {
      path = child_path x.path x.now.forked;
      first = new_task b n;
      log = [];
      now = new_task b n;
      bag = theirs;
      retired = [];
    }

    own : IsPermutation x.bag (v.bag.items ++ theirs)
    own = subst (λ es. IsPermutation es (v.bag.items ++ theirs)) f.keeps.bag p.all

    fork_goes : GoesOnTo (module_of k) a x (with_entry (module_of k) x request.Fork Told stamp v.bag.items x.retired)
        (begun stamp ∷ [])
    fork_goes =
        let late : suc x.now.clock ≡ stamp = let c = f.keeps.clock in omega (arith, c, next) in
        subst (λ n. GoesOnTo (module_of k) a x (with_entry (module_of k) x request.Fork Told n v.bag.items x.retired)
        (begun n ∷ [])) late
        (stay_typed.forks k.module.value f.code.derivations f.code.derived a x f.fits b told_fork.1 names v.bag.items theirs
        asks_fork told_fork.2 told_fork.3
        own p.gone p.moved they_are)

    pub fork_turned : (c : TypedTask) → c.task ≡ w → c.made ≡ 0 → c.clock ≡ stamp → c.log.items ≡ [] → c.bag.items ≡ theirs →
        c.retired.items ≡ [] → HasTurned k a (Ok (Forked c)) v x
    fork_turned c its_task none at_start no_log its_bag none_spent = record {
      after = with_entry (module_of k) x request.Fork Told stamp v.bag.items x.retired;
      new = begun stamp ∷ [];
      goes = fork_goes;
      keeps = keeps_it k a t x f request.Fork Told stamp v.bag.items x.retired
          (begun stamp ∷ []) told_fork.1 u v told_fork.3 fork_goes on task (made ∙ on.made) clock log refl
          (retired ∙ f.keeps.retired);
      done =
          let b = parted_sum offers x v.bag.items theirs own in
          let n = length_push x.log (record { asked = request.Fork; answer = Told; stamp = stamp }) in
          omega (arith, b, n);
      tries = λ z. let b = parted_sum (tries_at z) x v.bag.items theirs own in omega (arith, b);
      answers = (
        begun stamp,
        record { entry = record { asked = request.Fork; answer = Told; stamp = stamp }; is = refl },
        refl,
        record {
          path = ap (λ (w : TaskView). w.path) its_task ∙ ch.path ∙ (λ i. child_path (f.keeps.path i) (f.keeps.forked i));
          is_in = subst (λ w. IsIn k.module.value k w b) (sym its_task)
              (ch.states k.module.value x.now.state b f.code.from f.keeps.is_in told_fork.2);
          forked = ap (λ (w : TaskView). w.forked) its_task ∙ ch.forked;
          made = none;
          clock = at_start;
          log = no_log;
          bag = its_bag;
          retired = none_spent;
        },
      );
    }
