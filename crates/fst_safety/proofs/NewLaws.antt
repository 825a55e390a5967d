-- A configuration stays sound where a task makes a channel.
use Rattle.std.proofs.Common.{◌≡◌, ◌∙◌, ◌⊎◌, inl, inr, ℕ, suc, ◌+◌, [], false, Option, Some, None, refl, sym, ap, subst, arith}
use Rattle.std.specs.Prelude.{option_and_then, slice_get}
use Rattle.fst_types.specs.Tree.{Tree}
use Rattle.fst_types.specs.declared.side.Side.{Side}
use Rattle.fst_kinds.specs.WellFormed.{IsSession}
use Rattle.fst_derivations.specs.Rules.{Surroundings}
use Rattle.fst_types.specs.declared.ends.ChannelName.{ChannelName}
use Rattle.fst_types.specs.declared.ends.EndName.{EndName}
use Rattle.fst_machine.specs.declared.request.Request.TheVariants as request
use Rattle.fst_machine.specs.declared.request.Answer.TheVariants.{Made}
use Rattle.fst_machine.specs.Machine.{State, answered}
use Rattle.fst_machine.specs.Machine as machine
use Rattle.fst_runs.specs.declared.event.CoreEvent.TheVariants.{New}
use Rattle.fst_runs.specs.Configs.{Path, Task, Channel, Config, same_path, same_channel, residual_in, channel_residual, channel_name}
use Rattle.fst_runs.specs.Events.{Write, written, Does, has_made}
use Rattle.fst_runs.specs.Wrong.{once, held_state, amount, IsUnspent, IsOwned}
use Rattle.fst_runs.proofs.Laws.{same_path-itself, same_path-same, same_channel-itself, new_free, named_new, put, with_task, with_channel, in_put, same_amount, new_puts}
use Rattle.fst_safety.specs.Fitting.{Residuals, IsTyped}
use Rattle.fst_safety.specs.WellTyped.{IsWellTyped, program_in}
use Rattle.fst_safety.specs.Pauses.{Goes}
use Rattle.fst_safety.specs.Sound.{IsSound, IsTrace}
use Rattle.fst_safety.proofs.Answered.{end_at, Opens, which_end, opens_typed, made_typed}
use Rattle.fst_safety.proofs.Unknown.{unknown_state}

-- all that is about a new channel; n is the task's clock after it
module _ (m : Surroundings) (well : IsWellTyped m) (a : Tree) (c : Config) (p : Path) (t : Task) (s : State) (i : ℕ) (k : Tree)
    (n : ℕ)
    (hs : IsSound m a c) (ep : c.tasks p ≡ Some t) (rp : machine.request m.families t.state ≡ Some (request.New i))
    (ek : slice_get m.types i ≡ Some k)
    (an : answered (program_in m) t.state (Made (channel_name p t.made)) ≡ Some s) where
  abbrev h : ChannelName
  h = channel_name p t.made

  abbrev channel : Channel
  channel = record { declared = k; history = [] }

  abbrev t' : Task
  t' = has_made t s n

  abbrev d : Config
  d = with_task (with_channel c h channel) p t'

  abbrev r : Residuals
  r = residual_in c

  abbrev r' : Residuals
  r' = residual_in d

  no_channel_there : c.channels h ≡ None
  no_channel_there = new_free c p t hs.makers ep

  no_residual : (b : Side) → r (end_at h b) ≡ None
  no_residual b = ap (option_and_then (channel_residual b)) no_channel_there

  -- no task holds its ends, so that none of the others changes by it
  opens : (w : State) (u : Tree) → IsTyped m r w u → Opens r r' h k w
  opens w u typed = record {
    none = λ b. unknown_state m r (end_at h b) (no_residual b) w u typed;
    opened = λ b. ap (λ o. option_and_then (channel_residual b) (put o channel (c.channels h))) (same_channel-itself h);
    others = λ z e. ap (λ o. option_and_then (channel_residual z.side) (put o channel (c.channels z.channel))) e;
  }

  abbrev A : Tree
  A = (hs.tasks p t ep).0

  its : Opens r r' h k t.state
  its = opens t.state A (hs.tasks p t ep).1

  made : IsSession [] k × Goes m r' s A (λ z. held_state z t.state + once (same_channel h z.channel))
  made = made_typed m well t.state A s r r' i k h (hs.tasks p t ep).1 rp ek its an

  none_held : (b : Side) (o : Path) (w : Option Task) → c.tasks o ≡ w → amount (end_at h b) w ≡ 0
  none_held b o None e = refl
  none_held b o (Some w) e = (opens w.state (hs.tasks o w e).0 (hs.tasks o w e).1).none b

  owned : (z : EndName) → IsUnspent r' z → IsOwned d z
  owned z u = go (which_end h z)
    where
      go : ((b : Side) × (z ≡ end_at h b)) ⊎ (same_channel h z.channel ≡ false) → IsOwned d z
      go (inl e) =
          let n = made.1.1 z u in
          let f = ap (λ x. held_state x t.state) e.1 ∙ its.none e.0 in
          let q = ap (λ (x : EndName). once (same_channel h x.channel)) e.1 ∙ ap once (same_channel-itself h) in (
            p,
            ap (λ b. amount z (put b t' (c.tasks p))) (same_path-itself p) ∙ omega (arith, n, f, q),
            λ o f. ap (λ b. amount z (put b t' (c.tasks o))) f ∙ ap (λ x. amount x (c.tasks o)) e.1
                ∙ none_held e.0 o (c.tasks o) refl,
          )
      go (inr e) =
          let o = hs.owned z (u.0, sym (its.others z e) ∙ u.1, u.2) in
          let n = made.1.1 z u in
          let q = ap once e in
          let same : held_state z s ≡ held_state z t.state = omega (arith, n, q) in (
            o.0,
            same_amount z c p o.0 t t' ep same ∙ o.1,
            λ q f. same_amount z c p q t t' ep same ∙ o.2 q f,
          )

  -- the configuration with a new channel is sound
  pub made_new : IsSound m a d
  made_new = record {
    tasks = λ o w e. in_put (same_path p o) t' w (c.tasks o)
        (λ f g. (A, subst (λ z. IsTyped m r' z.state A) g made.1.0, λ j. (hs.tasks p t ep).2 (same_path-same p o f ∙ j)))
        (λ f g. (
          (hs.tasks o w g).0,
          opens_typed m r r' h k w.state (hs.tasks o w g).0 (opens w.state (hs.tasks o w g).0 (hs.tasks o w g).1)
              (hs.tasks o w g).1,
          (hs.tasks o w g).2,
        )) e;
    owned = owned;
    traces = λ g j e. in_put (same_channel h g) channel j (c.channels g)
        (λ f q. subst IsTrace q (k, made.0, made.0, refl, refl))
        (λ f q. hs.traces g j q) e;
    makers = (named_new c p t s n channel hs.makers hs.parents ep).0;
    parents = (named_new c p t s n channel hs.makers hs.parents ep).1;
  }

-- a configuration stays sound where a task makes a channel
pub new_sound : (m : Surroundings) (well : IsWellTyped m) (a : Tree) (c : Config) (p : Path) (w : Write) →
    IsSound m a c → Does (program_in m) m.types c (New p) w → IsSound m a (written c w)
new_sound m well a c p w h d =
    subst (IsSound m a) (sym (new_puts (program_in m) m.types c p w d))
    (made_new m well a c p d.task d.state d.number d.declared (suc d.task.clock) h d.asks.0 d.asks.1 d.typed d.leads)
