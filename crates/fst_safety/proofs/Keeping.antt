-- Tasks as the machine keeps them, and the threads that they are.
use Rattle.std.proofs.Common.{◌≡◌, ◌∙◌, ◌⊎◌, inl, inr, ◌<◌, ℕ, List, [], ◌∷◌, ◌++◌, Some, None, refl, sym, ap, subst, arith}
use Rattle.std.specs.Prelude.{slice_index_or}
use Rattle.std.proofs.lemmas.List.{append-nil}
use Rattle.std.proofs.lemmas.List.Elements.{All-nil}
use Rattle.fst_base.proofs.Options.{some_same}
use Rattle.fst_types.specs.Tree.{Tree, skip}
use Rattle.fst_types.specs.declared.label.Label.{Label}
use Rattle.fst_lts.specs.Step.{step}
use Rattle.fst_terms.specs.declared.core_module.Module.{Module}
use Rattle.fst_derivations.specs.Deriv.{Deriv}
use Rattle.fst_derivations.specs.Modules.{HasDerivations, surroundings}
use Rattle.fst_derivations.specs.Rules.{Surroundings}
use Rattle.fst_types.specs.declared.ends.EndName.{EndName}
use Rattle.fst_machine.specs.declared.code.Code.{Code}
use Rattle.fst_machine.specs.declared.request.Request.{Request}
use Rattle.fst_machine.specs.declared.request.Answer.{Answer}
use Rattle.fst_machine.specs.declared.request.Answer.TheVariants.{Go, Made, Forked, Sent, Got}
use Rattle.fst_machine.specs.Machine.{Pause, State, stuck, pause, asked, answered, or_lost}
use Rattle.fst_machine.specs.Machine as machine
use Rattle.fst_machine.specs.Code.{Compiled}
use Rattle.fst_machine.specs.Spots.{Spot, asked_at, inner}
use Rattle.fst_machine.specs.Standing.{Stands, StandsFor, Rests, Reaches, here, further}
use Rattle.fst_machine.specs.Programs.{program}
use Rattle.fst_vm.specs.Running.{code_of}
use Rattle.fst_vm.specs.Tasks.{IsIn, IsAtRest, HasNext, Takes, Stays, forked_after}
use Rattle.fst_runs.specs.Wrong.{IsAllowed}
use Rattle.fst_cell.specs.End.{EndView, residual_of}
use Rattle.fst_runs.specs.declared.log.LogEntry.{LogEntry}
use Rattle.fst_safety.specs.declared.tasks.TypedTask.{TypedTask}
use Rattle.fst_runs.specs.Logs.{made_after, forks_after}
use Rattle.fst_safety.specs.Threads.{Thread, FitsIn, FitsEnd, count_of}
use Rattle.fst_safety.specs.Turns.{AreKnownSpent}
use Rattle.fst_safety.specs.Going.{GoesOnTo, with_entry}
use Rattle.fst_safety.specs.Bags.{IsPlaced}
use Rattle.fst_safety.specs.Tasks.{Keeps, Fits, AsksNow, IsSame, HasGoneOn, module_of}
use Rattle.fst_safety.proofs.Checked.{checked}
use Rattle.fst_safety.proofs.Answered.{not_stuck, typed_asks}

-- ---- threads

-- where nothing has happened a thread has gone on to itself
pub stays : (m : Surroundings) (a : Tree) (x : Thread) → FitsIn m a x → GoesOnTo m a x x []
stays m a x f = record {
  fits = f;
  new_fit = All-nil (FitsIn m a);
  turn = record {
    gained = [];
    log = sym (append-nil x.log);
    path = refl;
    first = refl;
    idle = All-nil (λ (k : Thread). k.log ≡ []);
    born = λ w. refl;
    typed = λ s w. refl;
    cells = λ w. omega arith;
    exchanged = λ w. refl;
    spent = [];
    kept = sym (append-nil x.retired);
    known = λ z h c. inr (h, c);
    known_new = All-nil (AreKnownSpent x x);
  };
}

-- a thread that fits its module asks for something that its ends allow
module _ (m : Module) (ds : List Deriv) (h : HasDerivations m ds) (a : Tree) (x : Thread)
    (f : FitsIn (surroundings m []) a x) where
  pub stands_open : pause m.families.items x.now.state ≡ stuck → ⊥
  stands_open = not_stuck (surroundings m []) (checked m ds h) x.now.state f.typed.type f.typed.residuals f.typed.typed

  pub asks_for : (q : Request) × (machine.request m.families.items x.now.state ≡ Some q) × IsAllowed f.typed.residuals q
  asks_for = typed_asks (surroundings m []) (checked m ds h) x.now.state f.typed.type f.typed.residuals f.typed.typed

  pub allowed : (q : Request) → machine.request m.families.items x.now.state ≡ Some q → IsAllowed f.typed.residuals q
  allowed q e = subst (IsAllowed f.typed.residuals) (some_same (sym asks_for.1 ∙ e)) asks_for.2

-- ---- tasks

-- where no step is left a spot asks for what it stands for
asked_there : (c : Compiled) (s : Spot) (p : Pause) → inner c s ≡ None → Stands c s p → (p ≡ stuck → ⊥) → asked_at c s ≡ asked p
asked_there c s p still h alive = go (h 1)
  where
    reached : Reaches c (λ t. Rests c (StandsFor 0 c) t p) s → asked_at c s ≡ asked p
    reached (here r) = r.alike
    reached (further e r) = let none = sym still ∙ e in absurd (cc none)

    go : (p ≡ stuck) ⊎ Reaches c (λ t. Rests c (StandsFor 0 c) t p) s → asked_at c s ≡ asked p
    go (inl q) = absurd (alive q)
    go (inr r) = reached r

-- a task that is the same but for room is the same thread
pub same_keeps : (k : Code) (t u : TypedTask) (x : Thread) → IsSame t u → Keeps k t x → Keeps k u x
same_keeps k t u x s h = record {
  path = s.task.0 ∙ h.path;
  is_in = subst (λ p. IsIn k.module.value k (record
      { path = t.task.path; forked = t.task.forked; spot = p; ready = t.task.ready }) x.now.state) (sym s.task.2) h.is_in;
  forked = s.task.1 ∙ h.forked;
  made = s.made ∙ h.made;
  clock = s.clock ∙ h.clock;
  log = s.log ∙ h.log;
  bag = s.bag ∙ h.bag;
  retired = s.retired ∙ h.retired;
}

pub same_fits : (k : Code) (a : Tree) (t u : TypedTask) (x : Thread) → IsSame t u → Fits k a t x → Fits k a u x
same_fits k a t u x s f = record { code = f.code; keeps = same_keeps k t u x s f.keeps; fits = f.fits }

-- a task that fits its code
module _ (k : Code) (a : Tree) (t : TypedTask) (x : Thread) (f : Fits k a t x) where
  pub has_next : HasNext k t.task
  has_next =
      let q = asks_for k.module.value f.code.derivations f.code.derived a x f.fits in
      record { source = k.module.value; from = f.code.from; state = x.now.state; is_in = f.keeps.is_in; next = (q.0, q.1) }

  -- it asks where it runs for what its thread asks for
  pub asks_alike : IsAtRest k t.task → asked_at (code_of k.module.value.families.items k) t.task.spot ≡ machine.request
      (module_of k).families x.now.state
  asks_alike rests =
      asked_there (code_of k.module.value.families.items k) t.task.spot (pause k.module.value.families.items x.now.state)
      (rests k.module.value.families.items) f.keeps.is_in
      (stands_open k.module.value f.code.derivations f.code.derived a x f.fits)

  pub asks_it : (q : Request) → AsksNow k t q → machine.request (module_of k).families x.now.state ≡ Some q
  asks_it q now = sym (asks_alike now.0) ∙ now.1

  -- an end of its bag at which it asks stands at a place
  pub known_there : (n : EndName) (i : ℕ) → IsPlaced n t.bag.items i →
      (d : EndView) → f.fits.typed.residuals n ≡ residual_of (slice_index_or t.bag.items i d).knows
  known_there n i p d =
      let q = subst (λ es. IsPlaced n es i) f.keeps.bag p in
      ap f.fits.typed.residuals (sym (q.1 d)) ∙ f.fits.typed.are.known i d q.0 ∙ ap
      (λ es. residual_of (slice_index_or es i d).knows) (sym f.keeps.bag)

  pub fits_there : (n : EndName) (i : ℕ) → IsPlaced n t.bag.items i →
      (d : EndView) → FitsEnd (module_of k) x.now (slice_index_or t.bag.items i d)
  fits_there n i p d =
      let q = subst (λ es. IsPlaced n es i) f.keeps.bag p in
      subst (λ es. FitsEnd (module_of k) x.now (slice_index_or es i d)) (sym f.keeps.bag) (f.fits.ends i d q.0)

  -- it takes an answer after which there is a next request
  pub takes_it : (r : Answer) (s : State) → IsAtRest k t.task → answered (program k.module.value) x.now.state r ≡ Some s →
      (pause k.module.value.families.items s ≡ stuck → ⊥) →
      (r ≡ Forked → t.task.forked < 4294967295) → Takes k t.task r
  takes_it r s rests told alive few = record {
    rests = rests;
    source = k.module.value;
    from = f.code.from;
    state = x.now.state;
    is_in = f.keeps.is_in;
    after = s;
    told = told;
    asks = alive;
    few = few;
  }

  -- as where the thread that it leads to fits
  pub alive_in : (q : Request) (r : Answer) (stamp : ℕ) (bag retired : List EndView) (new : List Thread) (s : State) →
      answered (program k.module.value) x.now.state r ≡ Some s →
      GoesOnTo (module_of k) a x (with_entry (module_of k) x q r stamp bag retired) new →
      pause k.module.value.families.items s ≡ stuck → ⊥
  alive_in q r stamp bag retired new s told goes stop =
      stands_open k.module.value f.code.derivations f.code.derived a (with_entry (module_of k) x q r stamp bag retired) goes.fits
      (ap (λ o. pause k.module.value.families.items (or_lost o)) told ∙ stop)

  -- a task that has gone on with an entry is that thread, with the ends that it has then
  pub keeps_it : (q : Request) (r : Answer) (stamp : ℕ) (bag retired : List EndView) (new : List Thread) (s : State)
      (u v : TypedTask) →
      answered (program k.module.value) x.now.state r ≡ Some s →
      GoesOnTo (module_of k) a x (with_entry (module_of k) x q r stamp bag retired) new →
      HasGoneOn k t q r stamp u → v.task ≡ u.task → v.made ≡ made_after r t.made → v.clock ≡ u.clock → v.log.items ≡ u.log.items →
      v.bag.items ≡ bag → v.retired.items ≡ retired →
      Keeps k v (with_entry (module_of k) x q r stamp bag retired)
  keeps_it q r stamp bag retired new s u v told goes on task made clock log bag_is retired_is = record {
    path = ap (λ w. w.path) task ∙ on.task.path ∙ f.keeps.path;
    is_in = subst (λ w. IsIn k.module.value k w (or_lost (answered (program k.module.value) x.now.state r))) (sym task)
        (on.task.states k.module.value x.now.state (or_lost (answered (program k.module.value) x.now.state r)) f.code.from
        f.keeps.is_in
        (told ∙ ap (λ o. Some (or_lost o)) (sym told))
        (stands_open k.module.value f.code.derivations f.code.derived a
        (with_entry (module_of k) x q r stamp bag retired) goes.fits));
    forked = ap (λ w. w.forked) task ∙ on.task.forked ∙ forked_same r ∙ ap (forks_after r) f.keeps.forked;
    made = made ∙ ap (made_after r) f.keeps.made;
    clock = clock ∙ on.clock;
    log = log ∙ on.log ∙ ap (λ (l : List LogEntry). l ++ record { asked = q; answer = r; stamp = stamp } ∷ []) f.keeps.log;
    bag = bag_is;
    retired = retired_is;
  }
    where
      forked_same : (r : Answer) → forked_after r t.task.forked ≡ forks_after r t.task.forked
      forked_same Go = refl
      forked_same (Made h) = refl
      forked_same Forked = refl
      forked_same Sent = refl
      forked_same (Got ev) = refl

-- a task that has run on to what it asks for fits as before
pub advanced_fits : (k : Code) (a : Tree) (t u : TypedTask) (x : Thread) → Stays k t.task u.task → u.made ≡ t.made →
    u.clock ≡ t.clock → u.log.items ≡ t.log.items → u.bag.items ≡ t.bag.items →
    u.retired.items ≡ t.retired.items → Fits k a t x → Fits k a u x
advanced_fits k a t u x s made clock log bag retired f = record {
  code = f.code;
  keeps = record {
    path = s.path ∙ f.keeps.path;
    is_in = s.states k.module.value x.now.state f.keeps.is_in;
    forked = s.forked ∙ f.keeps.forked;
    made = made ∙ f.keeps.made;
    clock = clock ∙ f.keeps.clock;
    log = log ∙ f.keeps.log;
    bag = bag ∙ f.keeps.bag;
    retired = retired ∙ f.keeps.retired;
  };
  fits = f.fits;
}

-- an end at which something is asked stands in the bag
pub stands_in : (k : Code) (a : Tree) (t : TypedTask) (x : Thread) (f : Fits k a t x) (n : EndName) (s u : Tree) (l : Label) →
    f.fits.typed.residuals n ≡ Some s → step s l ≡ Some u → count_of n t.bag.items ≡ 0 → ⊥
stands_in k a t x f n s u l is e c =
    let c' : count_of n x.bag ≡ 0 = ap (count_of n) (sym f.keeps.bag) ∙ c in
    let same : skip ≡ s = some_same (sym (f.fits.typed.are.others n c') ∙ is) in
    let none : None ≡ Some u = ap (λ z. step z l) same ∙ e in
    absurd (cc none)
