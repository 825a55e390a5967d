-- Where events write: two different ones never write one task or one channel.
use Rattle.std.proofs.Common.{◌≡◌, ◌∙◌, ◌⊎◌, inl, inr, List, Bool, true, false, Option, Some, None, refl, sym, ap, subst}
use Rattle.std.specs.Prelude.{if◌then◌else◌}
use Rattle.fst_base.proofs.Options.{none_some}
use Rattle.fst_types.specs.Tree.{Tree}
use Rattle.fst_lts.specs.Histories.{over}
use Rattle.fst_types.specs.declared.ends.ChannelName.{ChannelName}
use Rattle.fst_types.specs.declared.ends.EndName.{EndName}
use Rattle.fst_types.specs.declared.event.Event.{Event}
use Rattle.fst_machine.specs.declared.request.Request.TheVariants as request
use Rattle.fst_machine.specs.Machine.{Program}
use Rattle.fst_runs.specs.declared.event.CoreEvent.{CoreEvent}
use Rattle.fst_runs.specs.declared.event.CoreEvent.TheVariants.{Local, New, Fork, Meet}
use Rattle.fst_runs.specs.Configs.{Path, Task, Channel, Config, same_path, same_channel, other, child_path, channel_name}
use Rattle.fst_runs.specs.Events.{Write, task_at, channel_at, Asks, Does}
use Rattle.fst_runs.proofs.Laws.{right_one, same_path-same, same_channel-same, one_parent, new_free, fork_free}
use Rattle.fst_safety.proofs.Askers.{IsRegular, same_asks, Asker, same_asker}
use Rattle.fst_safety.proofs.Owners.{or_other}

-- what a test writes is nothing where it fails
test_none : {X : Type 0} (b : Bool) (x : X) (P : Type 0) → (b ≡ true → P) → ((if b then Some x else None) ≡ None) ⊎ P
test_none true x P f = inr (f refl)
test_none false x P f = inl refl

task_written : (p o : Path) (t : Task) (P : Type 0) → (p ≡ o → P) → (task_at p t o ≡ None) ⊎ P
task_written p o t P f = test_none (same_path p o) t P (λ e. f (same_path-same p o e))

channel_written : (g h : ChannelName) (k : Channel) (P : Type 0) → (g ≡ h → P) → (channel_at g k h ≡ None) ⊎ P
channel_written g h k P f = test_none (same_channel g h) k P (λ e. f (same_channel-same g h e))

either_written : (a b : Option Task) (P : Type 0) → (a ≡ None) ⊎ P → (b ≡ None) ⊎ P → (over a b ≡ None) ⊎ P
either_written a b P (inr f) g = inr f
either_written a b P (inl f) (inr g) = inr g
either_written a b P (inl f) (inl g) = inl (ap (λ z. over z b) f ∙ g)

module _ (m : Program) (types : List Tree) (c : Config) (hs : IsRegular m c) where
  -- the path is that of the task that the event makes
  abbrev Child : CoreEvent → Path → Type 0
  Child e o = (p : Path) × (t : Task) × (e ≡ Fork p) × (c.tasks p ≡ Some t) × (child_path p t.forked ≡ o)

  -- the name is that of the channel that the event makes
  abbrev Named : CoreEvent → ChannelName → Type 0
  Named e h = (p : Path) × (t : Task) × (e ≡ New p) × (c.tasks p ≡ Some t) × (channel_name p t.made ≡ h)

  -- something passes over the channel in the event
  abbrev Spoken : CoreEvent → ChannelName → Type 0
  Spoken e h =
      (p : Path) × (q : Path) × (t : Task) × (u : Task) × (x : EndName) × (ev : Event) × (k : Channel) × (e ≡ Meet p q h) ×
      Asks m c p t (request.Put x ev) × Asks m c q u (request.Get (other x)) × (x.channel ≡ h) × (c.channels h ≡ Some k)

  -- an event writes the tasks that take part in it, and the one that it makes
  tasks_at : (e : CoreEvent) (w : Write) → Does m types c e w → (o : Path) → (w.tasks o ≡ None) ⊎ (Asker m c hs e o ⊎ Child e o)
  tasks_at (Local p) w d o =
      subst (λ z. (z.tasks o ≡ None) ⊎ (Asker m c hs (Local p) o ⊎ Child (Local p) o)) (sym d.writes)
      (task_written p o _ _ (λ e. inl (subst (Asker m c hs (Local p)) e (d.task, request.Step, d.asks, (refl, refl)))))
  tasks_at (New p) w d o =
      subst (λ z. (z.tasks o ≡ None) ⊎ (Asker m c hs (New p) o ⊎ Child (New p) o)) (sym d.writes)
      (task_written p o _ _ (λ e. inl (subst (Asker m c hs (New p)) e
      (d.task, request.New d.number, d.asks, (d.number, refl, refl)))))
  tasks_at (Fork p) w d o =
      subst (λ z. (z.tasks o ≡ None) ⊎ (Asker m c hs (Fork p) o ⊎ Child (Fork p) o)) (sym d.writes)
      (either_written _ _ _
      (task_written (child_path p d.task.forked) o _ _ (λ e. inr (p, d.task, refl, d.asks.0, e)))
      (task_written p o _ _ (λ e. inl (subst (Asker m c hs (Fork p)) e (d.task, request.Fork, d.asks, (refl, refl))))))
  tasks_at (Meet p q h) w d o =
      subst (λ z. (z.tasks o ≡ None) ⊎ (Asker m c hs (Meet p q h) o ⊎ Child (Meet p q h) o)) (sym d.writes)
      (either_written _ _ _
      (task_written q o _ _ (λ e. inl (subst (Asker m c hs (Meet p q h)) e
      (d.receiver, request.Get (other d.end), d.gets, inr (d.sender, d.end, d.event, refl, refl, d.puts, d.named)))))
      (task_written p o _ _ (λ e. inl (subst (Asker m c hs (Meet p q h)) e
      (d.sender, request.Put d.end d.event, d.puts, inl (d.receiver, d.end, d.event, refl, refl, d.gets, d.named))))))

  -- an event writes the channel that it makes, and the one over which it passes something
  channels_at : (e : CoreEvent) (w : Write) → Does m types c e w → (h : ChannelName) → (w.channels h ≡ None) ⊎
      (Named e h ⊎ Spoken e h)
  channels_at (Local p) w d h = inl (ap (λ z. z.channels h) d.writes)
  channels_at (New p) w d h =
      subst (λ z. (z.channels h ≡ None) ⊎ (Named (New p) h ⊎ Spoken (New p) h)) (sym d.writes)
      (channel_written (channel_name p d.task.made) h _ _ (λ e. inl (p, d.task, refl, d.asks.0, e)))
  channels_at (Fork p) w d h = inl (ap (λ z. z.channels h) d.writes)
  channels_at (Meet p q g) w d h =
      subst (λ z. (z.channels h ≡ None) ⊎ (Named (Meet p q g) h ⊎ Spoken (Meet p q g) h)) (sym d.writes)
      (channel_written g h _ _ (λ e. inr (
        p,
        q,
        d.sender,
        d.receiver,
        d.end,
        d.event,
        d.channel,
        ap (Meet p q) e,
        d.puts,
        d.gets,
        d.named ∙ e,
        ap c.channels (sym e) ∙ d.there,
      )))

  -- no task is there before it is made
  no_child : (e : CoreEvent) (o : Path) (t : Task) → Child e o → c.tasks o ≡ Some t → ⊥
  no_child e o t f g = none_some (sym (fork_free c f.0 f.1 hs.parents f.3) ∙ ap c.tasks f.4 ∙ g)

  -- no channel is there before it is made
  no_name : (e : CoreEvent) (h : ChannelName) (k : Channel) → Named e h → c.channels h ≡ Some k → ⊥
  no_name e h k f g = none_some (sym (new_free c f.0 f.1 hs.makers f.3) ∙ ap c.channels f.4 ∙ g)

  -- two different events write no task in common
  pub apart_tasks : (a b : CoreEvent) (v w : Write) → Does m types c a v → Does m types c b w → (a ≡ b → ⊥) → (o : Path) →
      (v.tasks o ≡ None) ⊎ (w.tasks o ≡ None)
  apart_tasks a b v w da db n o = go (tasks_at a v da o) (tasks_at b w db o)
    where
      go : (v.tasks o ≡ None) ⊎ (Asker m c hs a o ⊎ Child a o) → (w.tasks o ≡ None) ⊎ (Asker m c hs b o ⊎ Child b o) →
          (v.tasks o ≡ None) ⊎ (w.tasks o ≡ None)
      go (inl f) g = inl f
      go (inr f) (inl g) = inr g
      go (inr (inl f)) (inr (inl g)) = absurd (n (same_asker m c hs a b o f g))
      go (inr (inl f)) (inr (inr g)) = absurd (no_child b o f.0 g f.2.0)
      go (inr (inr f)) (inr (inl g)) = absurd (no_child a o g.0 f g.2.0)
      go (inr (inr f)) (inr (inr g)) = absurd (n (f.2 ∙ ap Fork (one_parent f.0 g.0 f.1.forked g.1.forked (f.4 ∙ sym g.4)).0
          ∙ sym g.2))

  -- two meetings over one channel are one event
  same_spoken : (a b : CoreEvent) (h : ChannelName) → Spoken a h → Spoken b h → a ≡ b
  same_spoken a b h f g = go (or_other f.4 g.4 (f.10 ∙ sym g.10))
    where
      go : (f.4 ≡ g.4) ⊎ (f.4 ≡ other g.4) → a ≡ b
      go (inl e) =
          let first = right_one m c hs.fine f.0 g.0 f.2 g.2 (request.Put f.4 f.5) (request.Put g.4 g.5) f.4 f.8 g.8 refl
          (ap Some (sym e)) in
          let second = right_one m c hs.fine f.1 g.1 f.3 g.3 (request.Get (other f.4)) (request.Get (other g.4))
          (other f.4) f.9 g.9 refl (ap (λ z. Some (other z)) (sym e)) in
          f.7 ∙ (λ i. Meet (first i) (second i) h) ∙ sym g.7
      go (inr e) =
          let q : f.0 ≡ g.1 = right_one m c hs.fine f.0 g.1 f.2 g.3 (request.Put f.4 f.5)
          (request.Get (other g.4)) f.4 f.8 g.9 refl (ap Some (sym e)) in
          let z = (same_asks m c g.1 f.2 g.3 (request.Put f.4 f.5) (request.Get (other g.4))
          (subst (λ z. Asks m c z f.2 (request.Put f.4 f.5)) q f.8) g.9).1 in
          absurd (cc z)

  -- two different events write no channel in common
  pub apart_channels : (a b : CoreEvent) (v w : Write) → Does m types c a v → Does m types c b w → (a ≡ b → ⊥) →
      (h : ChannelName) → (v.channels h ≡ None) ⊎ (w.channels h ≡ None)
  apart_channels a b v w da db n h = go (channels_at a v da h) (channels_at b w db h)
    where
      go : (v.channels h ≡ None) ⊎ (Named a h ⊎ Spoken a h) → (w.channels h ≡ None) ⊎ (Named b h ⊎ Spoken b h) →
          (v.channels h ≡ None) ⊎ (w.channels h ≡ None)
      go (inl f) g = inl f
      go (inr f) (inl g) = inr g
      go (inr (inl f)) (inr (inl g)) = absurd (n (f.2 ∙ ap New (ap (λ (h : ChannelName). h.maker) (f.4 ∙ sym g.4)) ∙ sym g.2))
      go (inr (inl f)) (inr (inr g)) = absurd (no_name a h g.6 f g.11)
      go (inr (inr f)) (inr (inl g)) = absurd (no_name b h f.6 g f.11)
      go (inr (inr f)) (inr (inr g)) = absurd (n (same_spoken a b h f g))
