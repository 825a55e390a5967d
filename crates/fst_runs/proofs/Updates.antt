-- Configurations in which tasks and channels are put, and that what an event writes puts some.
use Rattle.std.proofs.Common.{◌≡◌, ◌∙◌, suc, List, [], Bool, true, false, Option, Some, None, refl, sym, ap}
use Rattle.std.specs.Prelude.{if◌then◌else◌}
use Rattle.std.proofs.lemmas.Option.{none-some, same_Some}
use Rattle.fst_types.specs.Tree.{Tree}
use Rattle.fst_lts.specs.Histories.{over}
use Rattle.fst_types.specs.declared.ends.ChannelName.{ChannelName}
use Rattle.fst_types.specs.declared.ends.EndName.{EndName}
use Rattle.fst_machine.specs.Machine.{Program}
use Rattle.fst_runs.specs.declared.event.CoreEvent.TheVariants.{Local, New, Fork, Meet}
use Rattle.fst_runs.specs.Configs.{Path, Task, Channel, Config, same_path, same_channel, child_path, channel_name, new_task}
use Rattle.fst_runs.specs.Events.{Write, written, moved, meeting_stamp, extended, has_made, has_forked, has_met, passed, Does}
use Rattle.fst_runs.specs.Wrong.{amount, held_state}
use Rattle.fst_runs.proofs.NameLaws.{same_path-itself, same_path-same, same_path-apart}

-- what is put by a test, or else what was there
abbrev pub put : {X : Type 0} → Bool → X → Option X → Option X
put true x o = Some x
put false x o = o

-- the configuration with this task at its path
abbrev pub with_task : Config → Path → Task → Config
with_task c p t = record { tasks = λ q. put (same_path p q) t (c.tasks q); channels = c.channels }

-- the configuration with this channel at its name
abbrev pub with_channel : Config → ChannelName → Channel → Config
with_channel c h k = record { tasks = c.tasks; channels = λ g. put (same_channel h g) k (c.channels g) }

-- what is written by one test
put_one : {X : Type 0} (b : Bool) (x : X) (o : Option X) → over (if b then Some x else None) o ≡ put b x o
put_one true x o = refl
put_one false x o = refl

-- what is written by two tests
put_two : {X : Type 0} (b c : Bool) (x y : X) (o : Option X) →
    over (over (if b then Some x else None) (if c then Some y else None)) o ≡ put b x (put c y o)
put_two true c x y o = refl
put_two false c x y o = put_one c y o

-- what stands there was put by a test
pub in_test : {X P : Type 0} (b : Bool) (x y : X) → (b ≡ true → x ≡ y → P) → (if b then Some x else None) ≡ Some y → P
in_test true x y f e = f refl (same_Some x y e)
in_test false x y f e = absurd (none-some y e)

-- what stands there is what was put, or was there
pub in_put : {X P : Type 0} (b : Bool) (x y : X) (o : Option X) → (b ≡ true → x ≡ y → P) →
    (b ≡ false → o ≡ Some y → P) → put b x o ≡ Some y → P
in_put true x y o f g e = f refl (same_Some x y e)
in_put false x y o f g e = g refl e

module _ (m : Program) (types : List Tree) (c : Config) where
  -- a task that goes on by itself is put
  pub local_puts : (p : Path) (w : Write) (d : Does m types c (Local p) w) → written c w ≡ with_task c p (moved d.task d.state)
  local_puts p w d = ap (written c) d.writes ∙ (λ i.
      record { tasks = λ o. put_one (same_path p o) (moved d.task d.state) (c.tasks o) i; channels = c.channels })

  -- one that makes a channel is, and the channel
  pub new_puts : (p : Path) (w : Write) (d : Does m types c (New p) w) →
      written c w ≡ with_task (with_channel c (channel_name p d.task.made) (record { declared = d.declared; history = [] })) p
      (has_made d.task d.state (suc d.task.clock))
  new_puts p w d = ap (written c) d.writes ∙ (λ i. record {
    tasks = λ o. put_one (same_path p o) (has_made d.task d.state (suc d.task.clock)) (c.tasks o) i;
    channels = λ g. put_one (same_channel (channel_name p d.task.made) g) (record { declared = d.declared; history = [] })
        (c.channels g) i;
  })

  -- one that makes a task is, and the task
  pub fork_puts : (p : Path) (w : Write) (d : Does m types c (Fork p) w) →
      written c w ≡ with_task (with_task c p (has_forked d.task d.state (suc d.task.clock))) (child_path p d.task.forked)
      (new_task d.begun (suc d.task.clock))
  fork_puts p w d = ap (written c) d.writes ∙ (λ i. record {
    tasks = λ o. put_two (same_path (child_path p d.task.forked) o) (same_path p o) (new_task d.begun (suc d.task.clock))
        (has_forked d.task d.state (suc d.task.clock)) (c.tasks o) i;
    channels = c.channels;
  })

  -- two that meet are, and the channel over which something passes
  pub meet_puts : (p q : Path) (h : ChannelName) (w : Write) (d : Does m types c (Meet p q h) w) →
      written c w ≡ with_task (with_task (with_channel c h (extended d.channel (passed d.event d.sender d.receiver d.channel))) p
      (has_met d.sender d.sent (meeting_stamp d.sender d.receiver d.channel)))
      q (has_met d.receiver d.got (meeting_stamp d.sender d.receiver d.channel))
  meet_puts p q h w d =
      let n = meeting_stamp d.sender d.receiver d.channel in
      ap (written c) d.writes ∙ (λ i. record {
        tasks = λ o. put_two (same_path q o) (same_path p o) (has_met d.receiver d.got n) (has_met d.sender d.sent n)
            (c.tasks o) i;
        channels = λ g. put_one (same_channel h g) (extended d.channel (passed d.event d.sender d.receiver d.channel))
            (c.channels g) i;
      })

-- a task that holds an end as often as the one before changes no amount
pub same_amount : (x : EndName) (c : Config) (p q : Path) (t u : Task) → c.tasks p ≡ Some t →
    held_state x u.state ≡ held_state x t.state →
    amount x (put (same_path p q) u (c.tasks q)) ≡ amount x (c.tasks q)
same_amount x c p q t u e h = go (same_path p q) refl
  where
    go : (b : Bool) → same_path p q ≡ b → amount x (put b u (c.tasks q)) ≡ amount x (c.tasks q)
    go false s = refl
    go true s = h ∙ sym (ap (λ o. amount x o) (ap c.tasks (sym (same_path-same p q s)) ∙ e))

-- a task is there where it is put
pub put_there : (c : Config) (p : Path) (t : Task) → (with_task c p t).tasks p ≡ Some t
put_there c p t = ap (λ b. put b t (c.tasks p)) (same_path-itself p)

-- another path keeps what it had
pub stays_apart : (c : Config) (p q : Path) (t : Task) → (p ≡ q → ⊥) → (with_task c p t).tasks q ≡ c.tasks q
stays_apart c p q t n = ap (λ b. put b t (c.tasks q)) (same_path-apart p q n)

-- a task stays where another is put at a free path
pub stays_there : (c : Config) (p q : Path) (t u : Task) → c.tasks p ≡ None → c.tasks q ≡ Some u →
    (with_task c p t).tasks q ≡ Some u
stays_there c p q t u n e = stays_apart c p q t (λ f. none-some u (sym n ∙ ap c.tasks f ∙ e)) ∙ e

-- a path stays free where a task is put in the place of another
pub stays_free : (c : Config) (p q : Path) (t s : Task) → c.tasks p ≡ Some t → c.tasks q ≡ None → (with_task c p s).tasks q ≡ None
stays_free c p q t s e n = stays_apart c p q s (λ f. none-some t (sym n ∙ ap c.tasks (sym f) ∙ e)) ∙ n
