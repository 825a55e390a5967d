-- A configuration stays sound where a task goes on by itself, makes a channel or makes a task.
use Rattle.std.proofs.Common.{◌≡◌, ◌∙◌, ◌⊎◌, inl, inr, ℕ, zero, suc, ◌+◌, [], Bool, true, false, Option, Some, None, refl, sym, ap, subst, arith}
use Rattle.std.specs.Prelude.{option_and_then, slice_get}
use Rattle.fst_types.specs.Tree.{Tree}
use Rattle.fst_types.specs.declared.side.Side.{Side}
use Rattle.fst_types.specs.declared.side.Side.TheVariants.{Left, Right}
use Rattle.fst_kinds.specs.WellFormed.{IsSession}
use Rattle.fst_lts.specs.Histories.{side_type}
use Rattle.fst_derivations.specs.Rules.{Surroundings}
use Rattle.fst_types.specs.declared.ends.ChannelName.{ChannelName}
use Rattle.fst_types.specs.declared.ends.EndName.{EndName}
use Rattle.fst_machine.specs.declared.request.Request.TheVariants as request
use Rattle.fst_machine.specs.declared.request.Answer.TheVariants.{Made, Forked}
use Rattle.fst_machine.specs.Machine as machine
use Rattle.fst_machine.specs.Machine.{State, ends, pause, answered, child}
use Rattle.fst_runs.specs.Configs.{Path, Task, same_path, same_channel, channel_name, child_path, new_task, main_path}
use Rattle.fst_runs.specs.Names.{HasMakers, HasParents}
use Rattle.fst_runs.specs.Wrong.{once, held_state, amount, IsUnspent, IsOwned}
use Rattle.fst_runs.proofs.Laws.{same_path-itself, same_path-same, same_channel-itself, Grows, makers_with, parents_with, new_free, named_new, fork_free, named_fork, no_parent, in_put, same_amount, put_there, stays_there, stays_free}
use Rattle.fst_runs.proofs.Laws as update
use Rattle.fst_safety.specs.Fitting.{Residuals, IsTyped}
use Rattle.fst_safety.specs.WellTyped.{IsWellTyped, program_in}
use Rattle.fst_safety.specs.Pauses.{Goes}
use Rattle.fst_safety.proofs.Laws.{end_at, Opens, which_end, opens_typed, go_typed, made_typed, Parts, forked_typed, unknown_state}
use Rattle.fst_buffered.specs.Channels.{Config, side_residual, residual_in, placed, with_task, with_channel, opened, plain, core}
use Rattle.fst_buffered.specs.Events.{in_state, Does, local, new, fork}
use Rattle.fst_buffered.specs.Use.{IsUsed}
use Rattle.fst_buffered.specs.Sound.{IsSound}
use Rattle.fst_buffered.proofs.Updates.{no_channel, core_with_channel}

-- ---- a step

-- one task goes on, and no residual changes
goes_on : (m : Surroundings) (a : Tree) (c : Config) (p : Path) (t u : Task) (b : Tree) → IsSound m a c → c.tasks p ≡ Some t →
    Grows t u →
    IsTyped m (residual_in c) u.state b → (p ≡ main_path → b ≡ a) →
    ((x : EndName) → IsUnspent (residual_in c) x → held_state x u.state ≡ held_state x t.state) →
    IsSound m a (with_task c p u)
goes_on m a c p t u b h e g k y n = record {
  tasks = λ q v f. in_put (same_path p q) u v (c.tasks q)
      (λ s z. (b, subst (λ w. IsTyped m (residual_in c) w.state b) z k, λ i. y (same_path-same p q s ∙ i)))
      (λ s z. h.tasks q v z) f;
  owned = λ x o.
      let w = h.owned x o in
      (w.0, same_amount x (core c) p w.0 t u e (n x o) ∙ w.1, λ q s. same_amount x (core c) p q t u e (n x o) ∙ w.2 q s);
  used = h.used;
  makers = makers_with (core c) p t u h.makers e g;
  parents = parents_with (core c) p t u h.parents e g;
}

-- a configuration stays sound where a task applies a function or uses a global
pub local_sound : (m : Surroundings) (well : IsWellTyped m) (a : Tree) (capacity : ℕ) (c d : Config) (p : Path) →
    IsSound m a c → Does (program_in m) m.types capacity c (local p) d → IsSound m a d
local_sound m well a capacity c d p h w =
    let g = h.tasks p w.0 w.2.0 in
    let n = go_typed m well w.0.state g.0 w.1 (residual_in c) g.1 w.3 in
    subst (IsSound m a) (sym w.4)
    (goes_on m a c p w.0 (in_state w.0 w.1) g.0 h w.2.0 (omega arith, omega arith) n.0 g.2 n.1)

-- ---- a new channel

module _ (m : Surroundings) (well : IsWellTyped m) (a : Tree) (c : Config) (p : Path) (t : Task) (s : State) (i : ℕ) (k : Tree)
    (hs : IsSound m a c) (ep : c.tasks p ≡ Some t) (rp : machine.request m.families t.state ≡ Some (request.New i))
    (ek : slice_get m.types i ≡ Some k)
    (an : answered (program_in m) t.state (Made (channel_name p t.made)) ≡ Some s) where
  abbrev h : ChannelName
  h = channel_name p t.made

  abbrev t' : Task
  t' = record { state = s; made = suc t.made; forked = t.forked; clock = t.clock }

  abbrev d : Config
  d = with_task (with_channel c h (opened k)) p t'

  abbrev r : Residuals
  r = residual_in c

  abbrev r' : Residuals
  r' = residual_in d

  no_channel_there : c.channels h ≡ None
  no_channel_there = no_channel (c.channels h) (new_free (core c) p t hs.makers ep)

  no_residual : (b : Side) → r (end_at h b) ≡ None
  no_residual b = ap (option_and_then (side_residual b)) no_channel_there

  opened_residual : (b : Side) → side_residual b (opened k) ≡ Some (side_type b k)
  opened_residual Left = refl
  opened_residual Right = refl

  -- no task holds its ends, so that none of the others changes by it
  opens : (w : State) (u : Tree) → IsTyped m r w u → Opens r r' h k w
  opens w u typed = record {
    none = λ b. unknown_state m r (end_at h b) (no_residual b) w u typed;
    opened = λ b.
        ap (λ o. option_and_then (side_residual b) (placed o (opened k) (c.channels h))) (same_channel-itself h)
        ∙ opened_residual b;
    others = λ z e. ap (λ o. option_and_then (side_residual z.side) (placed o (opened k) (c.channels z.channel))) e;
  }

  abbrev A : Tree
  A = (hs.tasks p t ep).0

  its : Opens r r' h k t.state
  its = opens t.state A (hs.tasks p t ep).1

  made : IsSession [] k × Goes m r' s A (λ z. held_state z t.state + once (same_channel h z.channel))
  made = made_typed m well t.state A s r r' i k h (hs.tasks p t ep).1 rp ek its an

  none_held : (b : Side) (o : Path) (w : Option Task) → c.tasks o ≡ w → amount (end_at h b) w ≡ 0
  none_held b o None e = refl
  none_held b o (Some w) e = (opens w.state (hs.tasks o w e).0 (hs.tasks o w e).1).none b

  owned : (z : EndName) → IsUnspent r' z → IsOwned (core d) z
  owned z u = go (which_end h z)
    where
      go : ((b : Side) × (z ≡ end_at h b)) ⊎ (same_channel h z.channel ≡ false) → IsOwned (core d) z
      go (inl e) =
          let n = made.1.1 z u in
          let f = ap (λ x. held_state x t.state) e.1 ∙ its.none e.0 in
          let q = ap (λ (x : EndName). once (same_channel h x.channel)) e.1 ∙ ap once (same_channel-itself h) in (
            p,
            ap (λ b. amount z (update.put b t' (c.tasks p))) (same_path-itself p) ∙ omega (arith, n, f, q),
            λ o f. ap (λ b. amount z (update.put b t' (c.tasks o))) f ∙ ap (λ x. amount x (c.tasks o)) e.1
                ∙ none_held e.0 o (c.tasks o) refl,
          )
      go (inr e) =
          let o = hs.owned z (u.0, sym (its.others z e) ∙ u.1, u.2) in
          let n = made.1.1 z u in
          let q = ap once e in
          let same : held_state z s ≡ held_state z t.state = omega (arith, n, q) in (
            o.0,
            same_amount z (core c) p o.0 t t' ep same ∙ o.1,
            λ q f. same_amount z (core c) p q t t' ep same ∙ o.2 q f,
          )

  names : HasMakers (core d) × HasParents (core d)
  names =
      subst (λ z. HasMakers (update.with_task z p t') × HasParents (update.with_task z p t'))
      (sym (core_with_channel c h (opened k)))
      (named_new (core c) p t s t.clock (plain (opened k)) hs.makers hs.parents ep)

  opened_used : IsUsed (opened k)
  opened_used = record {
    ahead = Left;
    both = [];
    rest = [];
    is = refl;
    whole = refl;
    behind = refl;
    now = k;
    next = k;
    comes = refl;
    sends = refl;
    declared = made.0;
    session = made.0;
  }

  -- the configuration with a new channel is sound
  pub made_new : IsSound m a d
  made_new = record {
    tasks = λ o w e. in_put (same_path p o) t' w (c.tasks o)
        (λ f g. (A, subst (λ z. IsTyped m r' z.state A) g made.1.0, λ j. (hs.tasks p t ep).2 (same_path-same p o f ∙ j)))
        (λ f g. (
          (hs.tasks o w g).0,
          opens_typed m r r' h k w.state (hs.tasks o w g).0 (opens w.state (hs.tasks o w g).0 (hs.tasks o w g).1)
              (hs.tasks o w g).1,
          (hs.tasks o w g).2,
        )) e;
    owned = owned;
    used = λ g j e. in_put (same_channel h g) (opened k) j (c.channels g)
        (λ f q. subst IsUsed q opened_used)
        (λ f q. hs.used g j q) e;
    makers = names.0;
    parents = names.1;
  }

-- a configuration stays sound where a task makes a channel
pub new_sound : (m : Surroundings) (well : IsWellTyped m) (a : Tree) (capacity : ℕ) (c d : Config) (p : Path) →
    IsSound m a c → Does (program_in m) m.types capacity c (new p) d → IsSound m a d
new_sound m well a capacity c d p h w =
    subst (IsSound m a) (sym w.7) (made_new m well a c p w.0 w.1 w.2 w.3 h w.4.0 w.4.1 w.5 w.6)

-- ---- a new task

module _ (m : Surroundings) (well : IsWellTyped m) (a : Tree) (c : Config) (p : Path) (t : Task) (s k : State)
    (hs : IsSound m a c)
    (ep : c.tasks p ≡ Some t) (ch : child (pause m.families t.state) ≡ Some k)
    (an : answered (program_in m) t.state Forked ≡ Some s) where
  abbrev r0 : Residuals
  r0 = residual_in c

  abbrev q : Path
  q = child_path p t.forked

  abbrev tp : Task
  tp = record { state = s; made = t.made; forked = suc t.forked; clock = t.clock }

  abbrev tk : Task
  tk = new_task k 0

  abbrev e : Config
  e = with_task (with_task c p tp) q tk

  abbrev B : Tree
  B = (hs.tasks p t ep).0

  parts : Parts m well t.state B s r0 k
  parts = forked_typed m well t.state B s r0 k (hs.tasks p t ep).1 ch an

  no_task : c.tasks q ≡ None
  no_task = fork_free (core c) p t hs.parents ep

  p_now : e.tasks p ≡ Some tp
  p_now = stays_there (core (with_task c p tp)) q p tk tp (stays_free (core c) p q t tp ep no_task) (put_there (core c) p tp)

  q_now : e.tasks q ≡ Some tk
  q_now = put_there (core (with_task c p tp)) q tk

  else_now : (o : Path) → same_path p o ≡ false → same_path q o ≡ false → e.tasks o ≡ c.tasks o
  else_now o f g = ap (λ b. placed b tk (placed (same_path p o) tp (c.tasks o))) g ∙ ap (λ b. placed b tp (c.tasks o)) f

  share_out : (x y : ℕ) → x + y ≡ 1 → ((x ≡ 1) × (y ≡ 0)) ⊎ ((x ≡ 0) × (y ≡ 1))
  share_out zero y e = inr (refl, omega (arith, e))
  share_out (suc x) y e = inl (omega (arith, e), omega (arith, e))

  zero_both : (x y n : ℕ) → x + y ≡ n → n ≡ 0 → (x ≡ 0) × (y ≡ 0)
  zero_both x y n e f = (omega (arith, e, f), omega (arith, e, f))

  zero_one : ◌≡◌ {A = ℕ} 0 1 → ⊥
  zero_one e = omega (arith, e)

  -- what the task held before, one of both holds
  owned_by_p : (z : EndName) → IsUnspent r0 z → (o : IsOwned (core c) z) → same_path o.0 p ≡ true → IsOwned (core e) z
  owned_by_p z u o f = split_by (share_out (held_state z s) (held_state z k) (parts.2 z u ∙ held_before))
    where
      held_before : held_state z t.state ≡ 1
      held_before = sym (ap (λ w. amount z w) (ap c.tasks (same_path-same o.0 p f) ∙ ep)) ∙ o.1

      outside_both : (x : Path) → same_path p x ≡ false → same_path q x ≡ false → amount z (e.tasks x) ≡ 0
      outside_both x g h = ap (λ w. amount z w) (else_now x g h) ∙ o.2 x (ap (λ v. same_path v x) (same_path-same o.0 p f) ∙ g)

      split_by : ((held_state z s ≡ 1) × (held_state z k ≡ 0)) ⊎
          ((held_state z s ≡ 0) × (held_state z k ≡ 1)) → IsOwned (core e) z
      split_by (inl g) = (p, ap (λ w. amount z w) p_now ∙ g.0, λ x h. at_x x h (same_path q x) refl)
        where
          at_x : (x : Path) → same_path p x ≡ false → (b : Bool) → same_path q x ≡ b → amount z (e.tasks x) ≡ 0
          at_x x f true h = ap (λ w. amount z w) (ap e.tasks (sym (same_path-same q x h)) ∙ q_now) ∙ g.1
          at_x x f false h = outside_both x f h
      split_by (inr g) = (q, ap (λ w. amount z w) q_now ∙ g.1, λ x h. at_x x h (same_path p x) refl)
        where
          at_x : (x : Path) → same_path q x ≡ false → (b : Bool) → same_path p x ≡ b → amount z (e.tasks x) ≡ 0
          at_x x f true h = ap (λ w. amount z w) (ap e.tasks (sym (same_path-same p x h)) ∙ p_now) ∙ g.0
          at_x x f false h = outside_both x h f

  -- what it didn't hold, neither does
  owned_else : (z : EndName) → IsUnspent r0 z → (o : IsOwned (core c) z) → same_path o.0 p ≡ false → IsOwned (core e) z
  owned_else z u o f = (
    o.0,
    stays (same_path p o.0) refl (same_path q o.0) refl,
    λ x g. others x g (same_path p x) refl (same_path q x) refl,
  )
    where
      n : (held_state z s ≡ 0) × (held_state z k ≡ 0)
      n = zero_both (held_state z s) (held_state z k) (held_state z t.state) (parts.2 z u)
          (sym (ap (λ w. amount z w) ep) ∙ o.2 p f)

      not_p : same_path p o.0 ≡ true → ⊥
      not_p h =
          let g : true ≡ false = sym (same_path-itself p) ∙ ap (λ v. same_path v p) (same_path-same p o.0 h) ∙ f in
          absurd (cc g)

      stays : (x : Bool) → same_path p o.0 ≡ x → (b : Bool) → same_path q o.0 ≡ b → amount z (e.tasks o.0) ≡ 1
      stays true h b h' = absurd (not_p h)
      stays false h true h' = absurd (zero_one (sym (ap (λ w. amount z w) (ap c.tasks (sym (same_path-same q o.0 h')) ∙ no_task))
          ∙ o.1))
      stays false h false h' = ap (λ w. amount z w) (else_now o.0 h h') ∙ o.1

      others : (x : Path) → same_path o.0 x ≡ false → (y : Bool) → same_path p x ≡ y →
          (b : Bool) → same_path q x ≡ b → amount z (e.tasks x) ≡ 0
      others x f true h b h' = ap (λ w. amount z w) (ap e.tasks (sym (same_path-same p x h)) ∙ p_now) ∙ n.0
      others x f false h true h' = ap (λ w. amount z w) (ap e.tasks (sym (same_path-same q x h')) ∙ q_now) ∙ n.1
      others x f false h false h' = ap (λ w. amount z w) (else_now x h h') ∙ o.2 x f

  shared : (z : EndName) → IsUnspent r0 z → IsOwned (core e) z
  shared z u = go (same_path (hs.owned z u).0 p) refl
    where
      go : (b : Bool) → same_path (hs.owned z u).0 p ≡ b → IsOwned (core e) z
      go true f = owned_by_p z u (hs.owned z u) f
      go false f = owned_else z u (hs.owned z u) f

  -- the configuration with a new task is sound
  pub forked : IsSound m a e
  forked = record {
    tasks = λ o w i. in_put (same_path q o) tk w (placed (same_path p o) tp (c.tasks o))
        (λ f g. (
          parts.1.0,
          subst (λ z. IsTyped m r0 z.state parts.1.0) g parts.1.1,
          λ h. absurd (no_parent p t.forked (same_path-same q o f ∙ h)),
        ))
        (λ f g. in_put (same_path p o) tp w (c.tasks o)
        (λ f' g'. (B, subst (λ z. IsTyped m r0 z.state B) g' parts.0, λ h. (hs.tasks p t ep).2 (same_path-same p o f' ∙ h)))
        (λ f' g'. hs.tasks o w g') g) i;
    owned = shared;
    used = hs.used;
    makers = (named_fork (core c) p t s t.clock tk hs.makers hs.parents ep).0;
    parents = (named_fork (core c) p t s t.clock tk hs.makers hs.parents ep).1;
  }

-- a configuration stays sound where a task makes a task
pub fork_sound : (m : Surroundings) (well : IsWellTyped m) (a : Tree) (capacity : ℕ) (c d : Config) (p : Path) →
    IsSound m a c → Does (program_in m) m.types capacity c (fork p) d → IsSound m a d
fork_sound m well a capacity c d p h w = subst (IsSound m a) (sym w.6) (forked m well a c p w.0 w.1 w.2 h w.3.0 w.4 w.5)
