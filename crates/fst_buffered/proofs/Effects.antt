-- What a thing that happens changes, apart from where it happens, and that it stays possible where something else has happened.
use Rattle.std.proofs.Common.{◌≡◌, ◌∙◌, ℕ, suc, List, Bool, true, false, Option, Some, None, refl, sym, ap}
use Rattle.std.specs.Prelude.{option_map, slice_get, if◌then◌else◌, ⊤}
use Rattle.fst_types.specs.Tree.{Tree}
use Rattle.fst_lts.specs.Histories.{over}
use Rattle.fst_types.specs.declared.ends.ChannelName.{ChannelName}
use Rattle.fst_machine.specs.Machine.{Program, State, pause, answered, child}
use Rattle.fst_machine.specs.declared.request.Request.TheVariants as request
use Rattle.fst_machine.specs.declared.request.Answer.TheVariants.{Go, Made, Forked, Sent, Got}
use Rattle.fst_runs.specs.Configs.{Path, Task, same_path, same_channel, child_path, channel_name, new_task}
use Rattle.fst_runs.specs.Events.{task_at}
use Rattle.fst_runs.proofs.Laws.{same_channel-same}
use Rattle.fst_buffered.specs.Channels.{Message, Channel, Config, IsWhole, HasRoom, IsNext, further, after_put, placed, opened}
use Rattle.fst_buffered.specs.Events.{Occurrence, local, new, fork, put, takes, in_state, path_of, Asks, Does}

-- what changes: the tasks that are written, and what becomes of each channel
pub record Effect : Type 0 where
  pub tasks : Path → Option Task
  pub channels : ChannelName → Option Channel → Option Channel

-- the configuration after it
abbrev pub affected : Config → Effect → Config
affected c f = record {
  tasks = λ q. over (f.tasks q) (c.tasks q);
  channels = λ h. f.channels h (c.channels h);
}

-- no channel changes
abbrev pub no_change : ChannelName → Option Channel → Option Channel
no_change h o = o

-- where a test holds the channel changes so
abbrev pub changed : Bool → (Channel → Channel) → Option Channel → Option Channel
changed true f o = option_map f o
changed false f o = o

-- the task once it has made a channel, and once it has made a task
abbrev pub has_made : Task → State → Task
has_made t s = record { state = s; made = suc t.made; forked = t.forked; clock = t.clock }

abbrev pub has_forked : Task → State → Task
has_forked t s = record { state = s; made = t.made; forked = suc t.forked; clock = t.clock }

module _ (m : Program) (types : List Tree) (capacity : ℕ) where
  -- it is possible, and this is what it changes
  abbrev pub Has : Config → Occurrence → Effect → Type 0
  Has c (local p) f =
      (t : Task) × (s : State) × Asks m c p t request.Step × (answered m t.state Go ≡ Some s) ×
      (f ≡ record { tasks = task_at p (in_state t s); channels = no_change })
  Has c (new p) f =
      (t : Task) × (s : State) × (n : ℕ) × (a : Tree) × Asks m c p t (request.New n) × (slice_get types n ≡ Some a) ×
      (answered m t.state (Made (channel_name p t.made)) ≡ Some s) ×
      (f ≡ record {
        tasks = task_at p (has_made t s);
        channels = λ h. placed (same_channel (channel_name p t.made) h) (opened a);
      })
  Has c (fork p) f =
      (t : Task) × (s : State) × (b : State) × Asks m c p t request.Fork × (child (pause m.families t.state) ≡ Some b) ×
      (answered m t.state Forked ≡ Some s) ×
      (f ≡ record {
        tasks = λ q. over (task_at (child_path p t.forked) (new_task b 0) q) (task_at p (has_forked t s) q);
        channels = no_change;
      })
  Has c (put p x ev) f =
      (t : Task) × (s : State) × (k : Channel) × Asks m c p t (request.Put x ev) × (c.channels x.channel ≡ Some k) ×
      IsWhole x.side k × HasRoom capacity x.side k × (answered m t.state Sent ≡ Some s) ×
      (f ≡ record {
        tasks = task_at p (in_state t s);
        channels = λ h. changed (same_channel x.channel h) (after_put x.side ev);
      })
  Has c (takes p x ev) f =
      (t : Task) × (s : State) × (k : Channel) × (e : Message) × Asks m c p t (request.Get x) ×
      (c.channels x.channel ≡ Some k) × IsNext x.side k e × (e.event ≡ ev) × (answered m t.state (Got ev) ≡ Some s) ×
      (f ≡ record {
        tasks = task_at p (in_state t s);
        channels = λ h. changed (same_channel x.channel h) (further x.side);
      })

  -- ---- both say the same

  placed_over : {X : Type 0} (b : Bool) (x : X) (o : Option X) → placed b x o ≡ over (if b then Some x else None) o
  placed_over true x o = refl
  placed_over false x o = refl

  placed_twice : {X : Type 0} (a b : Bool) (x y : X) (o : Option X) →
      placed a x (placed b y o) ≡ over (over (if a then Some x else None) (if b then Some y else None)) o
  placed_twice true b x y o = refl
  placed_twice false true x y o = refl
  placed_twice false false x y o = refl

  placed_changed : (c : Config) (h g : ChannelName) (k : Channel) (f : Channel → Channel) → c.channels h ≡ Some k →
      placed (same_channel h g) (f k) (c.channels g) ≡ changed (same_channel h g) f (c.channels g)
  placed_changed c h g k f e = go (same_channel h g) refl
    where
      go : (b : Bool) → same_channel h g ≡ b → placed b (f k) (c.channels g) ≡ changed b f (c.channels g)
      go true s = ap (option_map f) (sym e ∙ ap c.channels (same_channel-same h g s))
      go false s = refl

  -- one task and what becomes of channels
  one_task : (c d : Config) (p : Path) (u : Task) (channels : ChannelName → Option Channel → Option Channel) →
      ((q : Path) → d.tasks q ≡ placed (same_path p q) u (c.tasks q)) →
      ((h : ChannelName) → d.channels h ≡ channels h (c.channels h)) →
      d ≡ affected c (record { tasks = task_at p u; channels = channels })
  one_task c d p u channels f g = λ i. record {
    tasks = λ q. (f q ∙ placed_over (same_path p q) u (c.tasks q)) i;
    channels = λ h. g h i;
  }

  -- what is possible has an effect, and leads to what that makes
  pub does_has : (c d : Config) (e : Occurrence) → Does m types capacity c e d →
      (f : Effect) × Has c e f × (d ≡ affected c f)
  does_has c d (local p) g = (
    _,
    (g.0, g.1, g.2, g.3, refl),
    g.4 ∙ one_task c _ p (in_state g.0 g.1) no_change (λ q. refl) (λ h. refl),
  )
  does_has c d (new p) g = (
    _,
    (g.0, g.1, g.2, g.3, g.4, g.5, g.6, refl),
    g.7 ∙ one_task c _ p (has_made g.0 g.1) (λ h. placed (same_channel (channel_name p g.0.made) h) (opened g.3))
        (λ q. refl) (λ h. refl),
  )
  does_has c d (fork p) g = (
    _,
    (g.0, g.1, g.2, g.3, g.4, g.5, refl),
    g.6 ∙ (λ i. record {
      tasks = λ q. placed_twice (same_path (child_path p g.0.forked) q) (same_path p q) (new_task g.2 0)
          (has_forked g.0 g.1) (c.tasks q) i;
      channels = c.channels;
    }),
  )
  does_has c d (put p x ev) g = (
    _,
    (g.0, g.1, g.2, g.3, g.4, g.5, g.6, g.7, refl),
    g.8 ∙ one_task c _ p (in_state g.0 g.1) (λ h. changed (same_channel x.channel h) (after_put x.side ev))
        (λ q. refl) (λ h. placed_changed c x.channel h g.2 (after_put x.side ev) g.4),
  )
  does_has c d (takes p x ev) g = (
    _,
    (g.0, g.1, g.2, g.3, g.4, g.5, g.6, g.7, g.8, refl),
    g.9 ∙ one_task c _ p (in_state g.0 g.1) (λ h. changed (same_channel x.channel h) (further x.side))
        (λ q. refl) (λ h. placed_changed c x.channel h g.2 (further x.side) g.5),
  )

  pub has_does : (c : Config) (e : Occurrence) (f : Effect) → Has c e f → Does m types capacity c e (affected c f)
  has_does c (local p) f g = (
    g.0,
    g.1,
    g.2,
    g.3,
    ap (affected c) g.4 ∙ sym (one_task c _ p (in_state g.0 g.1) no_change (λ q. refl) (λ h. refl)),
  )
  has_does c (new p) f g = (
    g.0,
    g.1,
    g.2,
    g.3,
    g.4,
    g.5,
    g.6,
    ap (affected c) g.7 ∙ sym (one_task c _ p (has_made g.0 g.1)
        (λ h. placed (same_channel (channel_name p g.0.made) h) (opened g.3)) (λ q. refl) (λ h. refl)),
  )
  has_does c (fork p) f g = (
    g.0,
    g.1,
    g.2,
    g.3,
    g.4,
    g.5,
    ap (affected c) g.6 ∙ sym (λ i. record {
      tasks = λ q. placed_twice (same_path (child_path p g.0.forked) q) (same_path p q) (new_task g.2 0)
          (has_forked g.0 g.1) (c.tasks q) i;
      channels = c.channels;
    }),
  )
  has_does c (put p x ev) f g = (
    g.0,
    g.1,
    g.2,
    g.3,
    g.4,
    g.5,
    g.6,
    g.7,
    ap (affected c) g.8 ∙ sym (one_task c _ p (in_state g.0 g.1)
        (λ h. changed (same_channel x.channel h) (after_put x.side ev))
        (λ q. refl) (λ h. placed_changed c x.channel h g.2 (after_put x.side ev) g.4)),
  )
  has_does c (takes p x ev) f g = (
    g.0,
    g.1,
    g.2,
    g.3,
    g.4,
    g.5,
    g.6,
    g.7,
    g.8,
    ap (affected c) g.9 ∙ sym (one_task c _ p (in_state g.0 g.1)
        (λ h. changed (same_channel x.channel h) (further x.side))
        (λ q. refl) (λ h. placed_changed c x.channel h g.2 (further x.side) g.5)),
  )

  -- ---- what stays possible

  -- the effect leaves the channel at which something happens such that this is still possible
  abbrev pub Keeps : Config → Occurrence → Effect → Type 0
  Keeps c (local p) v = ⊤
  Keeps c (new p) v = ⊤
  Keeps c (fork p) v = ⊤
  Keeps c (put p x ev) v = (k : Channel) → c.channels x.channel ≡ Some k → IsWhole x.side k → HasRoom capacity x.side k →
      (j : Channel) × (v.channels x.channel (Some k) ≡ Some j) × IsWhole x.side j × HasRoom capacity x.side j
  Keeps c (takes p x ev) v = (k : Channel) (e : Message) → c.channels x.channel ≡ Some k → IsNext x.side k e →
      (j : Channel) × (v.channels x.channel (Some k) ≡ Some j) × IsNext x.side j e

  module _ (c : Config) (v : Effect) where
    -- a task that isn't written stays as it was
    unwritten : (p : Path) (t : Task) → v.tasks p ≡ None → c.tasks p ≡ Some t → (affected c v).tasks p ≡ Some t
    unwritten p t n e = ap (λ z. over z (c.tasks p)) n ∙ e

    -- what is possible stays so, with the same effect
    pub stays : (e : Occurrence) (f : Effect) → Has c e f → v.tasks (path_of e) ≡ None → Keeps c e v →
        Has (affected c v) e f
    stays (local p) f h n k = (h.0, h.1, (unwritten p h.0 n h.2.0, h.2.1), h.3, h.4)
    stays (new p) f h n k = (h.0, h.1, h.2, h.3, (unwritten p h.0 n h.4.0, h.4.1), h.5, h.6, h.7)
    stays (fork p) f h n k = (h.0, h.1, h.2, (unwritten p h.0 n h.3.0, h.3.1), h.4, h.5, h.6)
    stays (put p x ev) f h n k =
        let r = k h.2 h.4 h.5 h.6 in (
          h.0,
          h.1,
          r.0,
          (unwritten p h.0 n h.3.0, h.3.1),
          ap (v.channels x.channel) h.4 ∙ r.1,
          r.2,
          r.3,
          h.7,
          h.8,
        )
    stays (takes p x ev) f h n k =
        let r = k h.2 h.3 h.5 h.6 in (
          h.0,
          h.1,
          r.0,
          h.3,
          (unwritten p h.0 n h.4.0, h.4.1),
          ap (v.channels x.channel) h.5 ∙ r.1,
          r.2,
          h.7,
          h.8,
          h.9,
        )
