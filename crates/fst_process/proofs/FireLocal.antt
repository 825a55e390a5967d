-- A task makes a step alone.
use Rattle.std.proofs.Common.{◌≡◌, ◌∙◌, zero, suc, max, Some, refl, sym, ap, subst}
use Rattle.fst_terms.specs.declared.core_module.Module.{Module}
use Rattle.fst_machine.specs.declared.code.Code.{Code}
use Rattle.fst_machine.specs.declared.request.Answer.TheVariants.{Go}
use Rattle.fst_machine.specs.Machine.{stuck, pause}
use Rattle.fst_runs.specs.declared.event.CoreEvent.TheVariants.{Local}
use Rattle.fst_runs.specs.Configs.{Path, Config, program}
use Rattle.fst_runs.specs.Events.{Write, Does, written, moved}
use Rattle.fst_runs.specs.Wrong.{IsRight}
use Rattle.fst_runs.proofs.Laws.{local_puts, put_there}
use Rattle.fst_process.specs.Kept.{Kept, without}
use Rattle.fst_process.specs.Reflects.{Reflects}
use Rattle.fst_process.specs.Firing.{IsPossible, Happens, CanGoOn, HasGoneOn}
use Rattle.fst_process.proofs.Taking.{is_kept}
use Rattle.fst_process.proofs.Moving.{moves_ready}
use Rattle.fst_process.proofs.Going.{local_goes}
use Rattle.fst_process.proofs.Rights.{right_fine, right_alive}
use Rattle.fst_process.proofs.Stepping.{its_task, can_go_on, is_of, settles_gone, settled_types, next_clock, clock_few}

-- the task is there after the step
step_there : (m : Module) (c : Config) (p : Path) (w : Write) → (f : Does (program m) m.types.items c (Local p) w) →
    (written c w).tasks p ≡ Some (moved f.task f.state)
step_there m c p w f = ap (λ z. z.tasks p) (local_puts (program m) m.types.items c p w f) ∙ put_there c p (moved f.task f.state)

step_alive : (m : Module) (c : Config) (p : Path) (w : Write) → IsRight (program m) (written c w) →
    (f : Does (program m) m.types.items c (Local p) w) →
    pause m.families.items f.state ≡ stuck → ⊥
step_alive m c p w right f = right_alive m (written c w) p (moved f.task f.state) right (step_there m c p w f)

module _ (k : Code) (d : Kept) (p : Path) where
  -- the task can go on
  pub local_can : IsPossible k d (Local p) → CanGoOn k d p Go
  local_can x =
      let f = is_kept x.source k d p (d.tasks p) (x.before.tasks p) x.does.task (x.reflects.tasks p) x.does.asks.0 in
      let a = x.right_after.asks p (moved x.does.task x.does.state) (step_there x.source x.before p x.write x.does) in
      can_go_on x.source k d p f.0 x.does.task x.reflects.from f.2 Go x.does.state x.does.leads
      (step_alive x.source x.before p x.write x.right_after x.does) d f.1
      (moves_ready x.source k x.events d x.before x.reflects p (Local p) x.write refl x.does)
      (clock_few k d p f.0 (Local p) f.1 x) (λ z. absurd (cc z)) a.0 a.1

  -- what is kept after a step is the configuration after it
  pub local_happens : (e : Kept) → HasGoneOn k p Go zero d e → Happens k d (Local p) e
  local_happens e g = λ m n c w r f right makers parents.
      let s = g.slot in
      let v = g.moves_on.task in
      let l = max (suc s.clock) zero in
      let i = its_task m k n d c p s f.task r g.there f.asks.0 in
      let z = settles_gone k p Go zero d e g i.path in
      let o = is_of m k d p s f.task r.from i Go f.state f.leads (step_alive m c p w right f) v l (without p d) e f.task.made
      (suc f.task.clock) f.task.forked g.moves_on.goes_on z
      (next_clock s.clock f.task.clock i.clock) refl in
      subst (λ y. Reflects m k (suc n) y (written c w)) (sym (settled_types m k v l (without p d) e r.from z))
      (local_goes m k n d c p w z.slot r f o (right_fine m (written c w) right))
