-- A configuration stays sound where a task makes a task.
use Rattle.std.proofs.Common.{◌≡◌, ◌∙◌, ◌⊎◌, inl, inr, ℕ, zero, suc, ◌+◌, Bool, true, false, Some, None, refl, sym, ap, subst, arith}
use Rattle.fst_types.specs.Tree.{Tree}
use Rattle.fst_derivations.specs.Rules.{Surroundings}
use Rattle.fst_types.specs.declared.ends.EndName.{EndName}
use Rattle.fst_machine.specs.declared.request.Answer.TheVariants.{Forked}
use Rattle.fst_machine.specs.Machine.{State, pause, answered, child}
use Rattle.fst_runs.specs.declared.event.CoreEvent.TheVariants.{Fork}
use Rattle.fst_runs.specs.Configs.{Path, Task, Config, same_path, residual_in, child_path, new_task}
use Rattle.fst_runs.specs.Events.{Write, written, Does, has_forked}
use Rattle.fst_runs.specs.Wrong.{held_state, amount, IsUnspent, IsOwned}
use Rattle.fst_runs.proofs.Laws.{same_path-itself, same_path-same, no_parent, fork_free, named_fork, put, with_task, in_put, put_there, stays_there, stays_free, fork_puts}
use Rattle.fst_safety.specs.Fitting.{Residuals, IsTyped}
use Rattle.fst_safety.specs.WellTyped.{IsWellTyped, program_in}
use Rattle.fst_safety.specs.Sound.{IsSound}
use Rattle.fst_safety.proofs.Answered.{Parts, forked_typed}

-- all that is about a fork; i and j are the clocks of both tasks after it
module _ (m : Surroundings) (well : IsWellTyped m) (a : Tree) (c : Config) (p : Path) (t : Task) (s k : State) (i j : ℕ)
    (hs : IsSound m a c)
    (ep : c.tasks p ≡ Some t) (ch : child (pause m.families t.state) ≡ Some k)
    (an : answered (program_in m) t.state Forked ≡ Some s) where
  abbrev r : Residuals
  r = residual_in c

  abbrev q : Path
  q = child_path p t.forked

  abbrev tp : Task
  tp = has_forked t s i

  abbrev tk : Task
  tk = new_task k j

  abbrev d : Config
  d = with_task (with_task c p tp) q tk

  abbrev A : Tree
  A = (hs.tasks p t ep).0

  parts : Parts m well t.state A s r k
  parts = forked_typed m well t.state A s r k (hs.tasks p t ep).1 ch an

  no_task : c.tasks q ≡ None
  no_task = fork_free c p t hs.parents ep

  p_now : d.tasks p ≡ Some tp
  p_now = stays_there (with_task c p tp) q p tk tp (stays_free c p q t tp ep no_task) (put_there c p tp)

  q_now : d.tasks q ≡ Some tk
  q_now = put_there (with_task c p tp) q tk

  else_now : (o : Path) → same_path p o ≡ false → same_path q o ≡ false → d.tasks o ≡ c.tasks o
  else_now o e f = ap (λ b. put b tk (put (same_path p o) tp (c.tasks o))) f ∙ ap (λ b. put b tp (c.tasks o)) e

  outside : (z : EndName) (n : (o : Path) → same_path p o ≡ false → amount z (c.tasks o) ≡ 0) (o : Path) → same_path p o ≡ false →
      same_path q o ≡ false → amount z (d.tasks o) ≡ 0
  outside z n o e f = ap (λ w. amount z w) (else_now o e f) ∙ n o e

  share_out : (x y : ℕ) → x + y ≡ 1 → ((x ≡ 1) × (y ≡ 0)) ⊎ ((x ≡ 0) × (y ≡ 1))
  share_out zero y e = inr (refl, omega (arith, e))
  share_out (suc x) y e = inl (omega (arith, e), omega (arith, e))

  zero_both : (x y n : ℕ) → x + y ≡ n → n ≡ 0 → (x ≡ 0) × (y ≡ 0)
  zero_both x y n e f = (omega (arith, e, f), omega (arith, e, f))

  zero_one : ◌≡◌ {A = ℕ} 0 1 → ⊥
  zero_one e = omega (arith, e)

  -- what the task held before, one of both holds
  owned_by_p : (z : EndName) → IsUnspent r z → (o : IsOwned c z) → same_path o.0 p ≡ true → IsOwned d z
  owned_by_p z u o e = split_by (share_out (held_state z s) (held_state z k) (parts.2 z u ∙ held_before))
    where
      held_before : held_state z t.state ≡ 1
      held_before = sym (ap (λ w. amount z w) (ap c.tasks (same_path-same o.0 p e) ∙ ep)) ∙ o.1

      outside_both : (x : Path) → same_path p x ≡ false → same_path q x ≡ false → amount z (d.tasks x) ≡ 0
      outside_both x f h = outside z (λ y l. o.2 y (ap (λ v. same_path v y) (same_path-same o.0 p e) ∙ l)) x f h

      split_by : ((held_state z s ≡ 1) × (held_state z k ≡ 0)) ⊎ ((held_state z s ≡ 0) × (held_state z k ≡ 1)) → IsOwned d z
      split_by (inl g) = (p, ap (λ w. amount z w) p_now ∙ g.0, λ x f. at_x x f (same_path q x) refl)
        where
          at_x : (x : Path) → same_path p x ≡ false → (b : Bool) → same_path q x ≡ b → amount z (d.tasks x) ≡ 0
          at_x x f true h = ap (λ w. amount z w) (ap d.tasks (sym (same_path-same q x h)) ∙ q_now) ∙ g.1
          at_x x f false h = outside_both x f h
      split_by (inr g) = (q, ap (λ w. amount z w) q_now ∙ g.1, λ x f. at_x x f (same_path p x) refl)
        where
          at_x : (x : Path) → same_path q x ≡ false → (b : Bool) → same_path p x ≡ b → amount z (d.tasks x) ≡ 0
          at_x x f true h = ap (λ w. amount z w) (ap d.tasks (sym (same_path-same p x h)) ∙ p_now) ∙ g.0
          at_x x f false h = outside_both x h f

  -- what it didn't hold, neither does
  owned_else : (z : EndName) → IsUnspent r z → (o : IsOwned c z) → same_path o.0 p ≡ false → IsOwned d z
  owned_else z u o e = (
    o.0,
    stays (same_path p o.0) refl (same_path q o.0) refl,
    λ x f. others x f (same_path p x) refl (same_path q x) refl,
  )
    where
      n : (held_state z s ≡ 0) × (held_state z k ≡ 0)
      n = zero_both (held_state z s) (held_state z k) (held_state z t.state) (parts.2 z u)
          (sym (ap (λ w. amount z w) ep) ∙ o.2 p e)

      not_p : same_path p o.0 ≡ true → ⊥
      not_p h =
          let f : true ≡ false = sym (same_path-itself p) ∙ ap (λ v. same_path v p) (same_path-same p o.0 h) ∙ e in
          absurd (cc f)

      stays : (x : Bool) → same_path p o.0 ≡ x → (b : Bool) → same_path q o.0 ≡ b → amount z (d.tasks o.0) ≡ 1
      stays true h b h' = absurd (not_p h)
      stays false h true h' = absurd (zero_one (sym (ap (λ w. amount z w) (ap c.tasks (sym (same_path-same q o.0 h')) ∙ no_task))
          ∙ o.1))
      stays false h false h' = ap (λ w. amount z w) (else_now o.0 h h') ∙ o.1

      others : (x : Path) → same_path o.0 x ≡ false → (y : Bool) → same_path p x ≡ y →
          (b : Bool) → same_path q x ≡ b → amount z (d.tasks x) ≡ 0
      others x f true h b h' = ap (λ w. amount z w) (ap d.tasks (sym (same_path-same p x h)) ∙ p_now) ∙ n.0
      others x f false h true h' = ap (λ w. amount z w) (ap d.tasks (sym (same_path-same q x h')) ∙ q_now) ∙ n.1
      others x f false h false h' = ap (λ w. amount z w) (else_now x h h') ∙ o.2 x f

  owned : (z : EndName) → IsUnspent r z → IsOwned d z
  owned z u = go (same_path (hs.owned z u).0 p) refl
    where
      go : (b : Bool) → same_path (hs.owned z u).0 p ≡ b → IsOwned d z
      go true e = owned_by_p z u (hs.owned z u) e
      go false e = owned_else z u (hs.owned z u) e

  -- the configuration with a new task is sound
  pub forked : IsSound m a d
  forked = record {
    tasks = λ o w e. in_put (same_path q o) tk w (put (same_path p o) tp (c.tasks o))
        (λ f g. (
          parts.1.0,
          subst (λ z. IsTyped m r z.state parts.1.0) g parts.1.1,
          λ h. absurd (no_parent p t.forked (same_path-same q o f ∙ h)),
        ))
        (λ f g. in_put (same_path p o) tp w (c.tasks o)
        (λ f' g'. (A, subst (λ z. IsTyped m r z.state A) g' parts.0, λ h. (hs.tasks p t ep).2 (same_path-same p o f' ∙ h)))
        (λ f' g'. hs.tasks o w g') g) e;
    owned = owned;
    traces = hs.traces;
    makers = (named_fork c p t s i tk hs.makers hs.parents ep).0;
    parents = (named_fork c p t s i tk hs.makers hs.parents ep).1;
  }

-- a configuration stays sound where a task makes a task
pub fork_sound : (m : Surroundings) (well : IsWellTyped m) (a : Tree) (c : Config) (p : Path) (w : Write) →
    IsSound m a c → Does (program_in m) m.types c (Fork p) w → IsSound m a (written c w)
fork_sound m well a c p w h d =
    subst (IsSound m a) (sym (fork_puts (program_in m) m.types c p w d))
    (forked m well a c p d.task d.state d.begun (suc d.task.clock) (suc d.task.clock) h d.asks.0 d.begins d.leads)
