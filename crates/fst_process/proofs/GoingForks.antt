-- What is kept is the configuration after a task has forked another one.
use Rattle.std.proofs.Common.{◌≡◌, ◌∙◌, ℕ, zero, suc, Bool, true, false, Option, Some, None, refl, sym, ap, subst, arith}
use Rattle.std.specs.Prelude.{length, if◌then◌else◌}
use Rattle.fst_base.proofs.Options.{none_some}
use Rattle.fst_lts.specs.Histories.{over}
use Rattle.fst_terms.specs.declared.core_module.Module.{Module}
use Rattle.fst_machine.specs.declared.code.Code.{Code}
use Rattle.fst_machine.specs.declared.request.Request.TheVariants as request
use Rattle.fst_runs.specs.declared.event.CoreEvent.TheVariants.{Fork}
use Rattle.fst_runs.specs.Configs.{Path, Config, Task, same_path, child_path, new_task, program}
use Rattle.fst_runs.specs.Events.{Write, written, Does, has_forked}
use Rattle.fst_vm.specs.Slot.{Slot}
use Rattle.fst_paths.specs.Paths.{put_at}
use Rattle.fst_process.specs.Kept.{Kept, without, settled}
use Rattle.fst_process.specs.Reflects.{Reflects}
use Rattle.fst_paths.proofs.Laws.{put_here, put_cases}
use Rattle.fst_process.proofs.Taking.{hide, show}
use Rattle.fst_process.proofs.Fewer.{Fine, fine_before}
use Rattle.fst_process.proofs.Going.{IsOf, bound, settled_made, taken, comes_in}

-- a task written in place of one that was there, and another one
pub two_written : {X : Type 0} (a b : Bool) (u t : X) (o : Option X) →
    (if a then Some u else if b then Some t else if b then None else o) ≡ over
    (over (if a then Some u else None) (if b then Some t else None)) o
two_written true b u t o = refl
two_written false true u t o = refl
two_written false false u t o = refl

module _ (m : Module) (k : Code) (n : ℕ) (d : Kept) (c : Config) (p : Path) (w : Write) (s o : Slot) (r : Reflects m k n d c)
    (f : Does (program m) m.types.items c (Fork p) w) where
  -- the task after it has forked
  abbrev pub parent : Task
  parent = has_forked f.task f.state (suc f.task.clock)

  -- the path of the task that is forked
  abbrev pub its_path : Path
  its_path = child_path p f.task.forked

  -- the task that is forked
  abbrev pub forked_task : Task
  forked_task = new_task f.begun (suc f.task.clock)

  abbrev half : Config
  half = show p parent (hide p c)

  same : show its_path forked_task half ≡ written c w
  same =
      (λ i. record {
        tasks = λ q. two_written (same_path its_path q) (same_path p q) forked_task parent (c.tasks q) i;
        channels = c.channels;
      }) ∙ sym (ap (written c) f.writes)

  abbrev first : Kept
  first = settled (length m.types.items) s (without p d)

  -- after a task has forked another one, whose path is new
  pub fork_goes : IsOf m k p s parent → IsOf m k its_path o forked_task → c.tasks its_path ≡ None → d.made its_path ≡ zero →
      Fine m (written c w) →
      Reflects m k (suc n) (settled (length m.types.items) o first) (written c w)
  fork_goes is child fresh unmade fine =
      let b = bound m k n d c p f.task r f.asks.0 in
      let clock = b.clock in
      let forked = b.forked in
      subst (Reflects m k (suc n) (settled (length m.types.items) o first)) same
      (comes_in m k (suc n) first half its_path o forked_task
      (comes_in m k (suc n) (without p d) (hide p c) p s parent (taken m k n d c p f.task request.Fork r f.asks refl)
      (put_here p None c.tasks) is b.made
      (omega (arith, clock)) (omega (arith, forked)) (fine_before m half its_path forked_task free whole))
      free child (settled_made (length m.types.items) s (without p d) its_path ∙ unmade) (omega (arith, clock))
      (omega arith) whole)
    where
      whole : Fine m (show its_path forked_task half)
      whole = subst (Fine m) (sym same) fine

      free : half.tasks its_path ≡ None
      free =
          put_cases (λ z. z ≡ None) p its_path (Some parent) (put_at p None c.tasks)
          (λ z. absurd (none_some (sym fresh ∙ ap c.tasks (sym z) ∙ f.asks.0)))
          (λ y. put_cases (λ z. z ≡ None) p its_path None c.tasks (λ z. refl) (λ z. fresh))
