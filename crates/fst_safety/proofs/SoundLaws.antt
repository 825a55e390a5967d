-- A sound configuration isn't wrong, and stays sound where one task goes on by itself.
use Rattle.std.proofs.Common.{◌≡◌, ◌∙◌, Some, sym, subst, arith}
use Rattle.fst_types.specs.Tree.{Tree}
use Rattle.fst_derivations.specs.Rules.{Surroundings}
use Rattle.fst_types.specs.declared.ends.EndName.{EndName}
use Rattle.fst_runs.specs.declared.event.CoreEvent.TheVariants.{Local}
use Rattle.fst_runs.specs.Configs.{Path, Task, Config, same_path, residual_in, main_path}
use Rattle.fst_runs.specs.Events.{Write, written, moved, Does}
use Rattle.fst_runs.specs.Wrong.{held_state, IsUnspent, IsRight}
use Rattle.fst_runs.proofs.Laws.{same_path-same, Grows, makers_with, parents_with, with_task, in_put, same_amount, local_puts}
use Rattle.fst_safety.specs.Fitting.{IsTyped}
use Rattle.fst_safety.specs.WellTyped.{IsWellTyped, program_in}
use Rattle.fst_safety.specs.Sound.{IsSound}
use Rattle.fst_safety.proofs.Answered.{typed_asks, go_typed}

-- a sound configuration isn't wrong
pub sound_right : (m : Surroundings) (well : IsWellTyped m) (a : Tree) (c : Config) → IsSound m a c → IsRight (program_in m) c
sound_right m well a c h = record {
  asks = λ p t e. let g = h.tasks p t e in typed_asks m well t.state g.0 (residual_in c) g.1;
  traces = λ k t e. let g = h.traces k t e in (g.0, g.3);
  owned = h.owned;
}

-- one task goes on, and no residual changes
pub goes_on : (m : Surroundings) (a : Tree) (c : Config) (p : Path) (t u : Task) (b : Tree) → IsSound m a c → c.tasks p ≡ Some t →
    Grows t u →
    IsTyped m (residual_in c) u.state b → (p ≡ main_path → b ≡ a) →
    ((x : EndName) → IsUnspent (residual_in c) x → held_state x u.state ≡ held_state x t.state) →
    IsSound m a (with_task c p u)
goes_on m a c p t u b h e g k y n = record {
  tasks = λ q v f. in_put (same_path p q) u v (c.tasks q)
      (λ s z. (b, subst (λ w. IsTyped m (residual_in c) w.state b) z k, λ i. y (same_path-same p q s ∙ i)))
      (λ s z. h.tasks q v z) f;
  owned = λ x o.
      let w = h.owned x o in
      (w.0, same_amount x c p w.0 t u e (n x o) ∙ w.1, λ q s. same_amount x c p q t u e (n x o) ∙ w.2 q s);
  traces = h.traces;
  makers = makers_with c p t u h.makers e g;
  parents = parents_with c p t u h.parents e g;
}

-- a configuration stays sound where a task applies a function or uses a global
pub local_sound : (m : Surroundings) (well : IsWellTyped m) (a : Tree) (c : Config) (p : Path) (w : Write) →
    IsSound m a c → Does (program_in m) m.types c (Local p) w → IsSound m a (written c w)
local_sound m well a c p w h d =
    let g = h.tasks p d.task d.asks.0 in
    let n = go_typed m well d.task.state g.0 d.state (residual_in c) g.1 d.leads in
    subst (IsSound m a) (sym (local_puts (program_in m) m.types c p w d))
    (goes_on m a c p d.task (moved d.task d.state) g.0 h d.asks.0 (omega arith, omega arith) n.0 g.2 n.1)
