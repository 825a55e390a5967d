-- A task forks another one.
use Rattle.std.proofs.Common.{◌≡◌, ◌∙◌, ◌+◌, ◌++◌, ◌<◌, ℕ, zero, suc, max, true, [], ◌∷◌, Some, None, refl, sym, ap, subst, arith}
use Rattle.std.specs.Prelude.{length}
use Rattle.fst_terms.specs.declared.core_module.Module.{Module}
use Rattle.fst_machine.specs.declared.code.Code.{Code}
use Rattle.fst_machine.specs.declared.request.Request.TheVariants as request
use Rattle.fst_machine.specs.declared.request.Answer.TheVariants.{Forked}
use Rattle.fst_machine.specs.Machine.{stuck, pause}
use Rattle.fst_vm.specs.TaskView.{TaskView}
use Rattle.fst_vm.specs.Tasks.{IsIn, HasNext, Forks, IsChild}
use Rattle.fst_runs.specs.declared.event.CoreEvent.TheVariants.{Fork}
use Rattle.fst_runs.specs.Configs.{Path, Config, Task, child_path, new_task, program}
use Rattle.fst_runs.specs.Events.{Write, Does, written, has_forked}
use Rattle.fst_runs.specs.Names.{HasParents}
use Rattle.fst_runs.specs.Wrong.{IsRight}
use Rattle.fst_runs.proofs.Laws.{fork_free, with_task, fork_puts, put_there, stays_there, stays_free}
use Rattle.fst_vm.specs.Slot.{Slot, is_live}
use Rattle.fst_process.specs.Kept.{Kept, without, settled}
use Rattle.fst_process.specs.Reflects.{IsTask, Reflects}
use Rattle.fst_process.specs.Firing.{IsPossible, Happens, Settles, CanGoOn, HasGoneOn}
use Rattle.fst_process.proofs.Moving.{moves_ready}
use Rattle.fst_process.proofs.Going.{IsOf}
use Rattle.fst_process.proofs.GoingForks.{fork_goes}
use Rattle.fst_process.proofs.Begun.{unmade}
use Rattle.fst_process.proofs.Rights.{right_fine, right_alive}
use Rattle.fst_process.proofs.Stepping.{there_live, its_task, can_go_on, is_of, settles_gone, settled_types, one_more, next_clock, clock_few}

module _ (m : Module) (c : Config) (p : Path) (w : Write) (right : IsRight (program m) (written c w)) (parents : HasParents c)
    (f : Does (program m) m.types.items c (Fork p) w) where
  abbrev new_path : Path
  new_path = child_path p f.task.forked

  abbrev new : Task
  new = new_task f.begun (suc f.task.clock)

  fresh : c.tasks new_path ≡ None
  fresh = fork_free c p f.task parents f.asks.0

  abbrev parent : Task
  parent = has_forked f.task f.state (suc f.task.clock)

  puts : written c w ≡ with_task (with_task c p parent) new_path new
  puts = fork_puts (program m) m.types.items c p w f

  child_there : (written c w).tasks new_path ≡ Some new
  child_there = ap (λ z. z.tasks new_path) puts ∙ put_there (with_task c p parent) new_path new

  child_alive : pause m.families.items f.begun ≡ stuck → ⊥
  child_alive = right_alive m (written c w) new_path new right child_there

  parent_there : (written c w).tasks p ≡ Some parent
  parent_there =
      ap (λ z. z.tasks p) puts
      ∙ stays_there (with_task c p parent) new_path p new parent (stays_free c p new_path f.task parent f.asks.0 fresh)
      (put_there c p parent)

  parent_alive : pause m.families.items f.state ≡ stuck → ⊥
  parent_alive = right_alive m (written c w) p parent right parent_there

module _ (k : Code) (d : Kept) (p : Path) where
  -- the task that forks is kept as one that has not ended
  pub fork_there : IsPossible k d (Fork p) → is_live (d.tasks p) ≡ true
  fork_there x = there_live x.source k x.events d x.before p x.does.task request.Fork x.reflects x.does.asks refl

  module _ (s : Slot) (there : d.tasks p ≡ Some s) where
    its_parent : (m : Module) (n : ℕ) (c : Config) (w : Write) → Reflects m k n d c →
        (f : Does (program m) m.types.items c (Fork p) w) → IsTask m k d p s f.task
    its_parent m n c w r f = its_task m k n d c p s f.task r there f.asks.0

    forked_few : IsPossible k d (Fork p) → s.task.forked < 4294967295
    forked_few x = let a = x.reflects.forks p s there in let f = x.few in omega (arith, a, f)

    -- it asks for a fork
    pub forks_now : IsPossible k d (Fork p) → Forks k s.task
    forks_now x =
        let i = its_parent x.source x.events x.before x.write x.reflects x.does in
        record {
          rests = i.rests;
          source = x.source;
          from = x.reflects.from;
          state = x.does.task.state;
          is_in = i.is_in;
          asks = x.does.asks.1;
          few = forked_few x;
        }

    -- it can go on
    pub fork_can : IsPossible k d (Fork p) → CanGoOn k d p Forked
    fork_can x =
        let i = its_parent x.source x.events x.before x.write x.reflects x.does in
        let a = x.right_after.asks p (has_forked x.does.task x.does.state (suc x.does.task.clock))
        (parent_there x.source x.before p x.write x.right_after x.parents x.does) in
        can_go_on x.source k d p s x.does.task x.reflects.from i Forked x.does.state x.does.leads
        (parent_alive x.source x.before p x.write x.right_after x.parents x.does) d there
        (moves_ready x.source k x.events d x.before x.reflects p (Fork p) x.write refl x.does)
        (clock_few k d p s (Fork p) there x) (λ z. forked_few x) a.0 a.1

    child_in : (v : TaskView) → IsChild k s.task v → (m : Module) (n : ℕ) (c : Config) (w : Write) → Reflects m k n d c →
        (f : Does (program m) m.types.items c (Fork p) w) →
        IsIn m k v f.begun
    child_in v g m n c w r f = g.states m f.task.state f.begun r.from (its_parent m n c w r f).is_in f.begins

    -- so does the task that is forked
    pub child_next : (v : TaskView) → IsChild k s.task v → IsPossible k d (Fork p) → HasNext k v
    child_next v g x = record {
      source = x.source;
      from = x.reflects.from;
      state = x.does.begun;
      is_in = child_in v g x.source x.events x.before x.write x.reflects x.does;
      next =
          let a = x.right_after.asks (child_path p x.does.task.forked) (new_task x.does.begun (suc x.does.task.clock))
          (child_there x.source x.before p x.write x.right_after x.parents x.does) in
          (a.0, a.1);
    }

    -- what is kept after a fork is the configuration after it
    pub fork_happens : (u : TaskView) (e g : Kept) → HasGoneOn k p Forked zero d e → IsChild k s.task u →
        Settles k u (s.clock + 1) e g → Happens k d (Fork p) g
    fork_happens u e g b child y = λ m n c w r f right makers parents.
        let j = its_parent m n c w r f in
        let v = b.moves_on.task in
        let l = max (suc b.slot.clock) zero in
        let i = its_task m k n d c p b.slot f.task r b.there f.asks.0 in
        let z = settles_gone k p Forked zero d e b i.path in
        let inside = child_in u child m n c w r f in
        let o = is_of m k d p b.slot f.task r.from i Forked f.state f.leads (parent_alive m c p w right parents f) v l
        (without p d) e f.task.made (suc f.task.clock) (suc f.task.forked)
        b.moves_on.goes_on z (next_clock b.slot.clock f.task.clock i.clock) refl in
        let q : IsOf m k (child_path p f.task.forked) y.slot (new_task f.begun (suc f.task.clock)) = record {
          path = y.stays.path ∙ child.path ∙ (λ a. j.path a ++ suc (j.forked a) ∷ []);
          rests = y.rests;
          is_in = y.stays.states m f.begun inside;
          asks = y.asked m f.begun inside (child_alive m c p w right parents f);
          clock = y.clock ∙ one_more s.clock f.task.clock j.clock;
          forked = y.stays.forked ∙ child.forked;
        } in
        let none = fork_free c p f.task parents f.asks.0 in
        let kept = settled_types m k u (s.clock + 1) e g r.from y
        ∙ ap (settled (length m.types.items) y.slot) (settled_types m k v l (without p d) e r.from z) in
        subst (λ h. Reflects m k (suc n) h (written c w)) (sym kept)
        (fork_goes m k n d c p w z.slot y.slot r f o q none
        (unmade m k n d c (child_path p f.task.forked) r none (λ h j b. let a = makers h j b in (a.0, a.1)))
        (right_fine m (written c w) right))
