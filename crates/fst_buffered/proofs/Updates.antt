-- Configurations in which a task or a channel is placed, and their names.
use Rattle.std.proofs.Common.{◌≡◌, ◌∙◌, ◌≤◌, ◌<◌, Bool, true, false, Option, Some, None, refl, sym, ap}
use Rattle.std.specs.Prelude.{option_map}
use Rattle.std.proofs.lemmas.Option.{none-some}
use Rattle.fst_types.specs.declared.ends.ChannelName.{ChannelName}
use Rattle.fst_runs.specs.Configs.{Path, Task, same_channel}
use Rattle.fst_runs.specs.Names.{HasMakers, HasParents}
use Rattle.fst_runs.proofs.Laws.{same_channel-same, Grows, makers_with, parents_with}
use Rattle.fst_runs.proofs.Laws as update
use Rattle.fst_buffered.specs.Channels.{Channel, Config, placed, with_task, with_channel, plain, core}

-- what is nothing as a plain channel is nothing
pub no_channel : (o : Option Channel) → option_map plain o ≡ None → o ≡ None
no_channel None e = refl
no_channel (Some k) e = absurd (none-some (plain k) (sym e))

-- a channel that is placed is placed among the plain ones
plain_placed : (b : Bool) (k : Channel) (o : Option Channel) →
    option_map plain (placed b k o) ≡ update.put b (plain k) (option_map plain o)
plain_placed true k o = refl
plain_placed false k o = refl

pub core_with_channel : (c : Config) (h : ChannelName) (k : Channel) →
    core (with_channel c h k) ≡ update.with_channel (core c) h (plain k)
core_with_channel c h k = λ i. record { tasks = c.tasks; channels = λ g. plain_placed (same_channel h g) k (c.channels g) i }

-- a channel that goes on keeps its maker
pub makers_grow : (c : Config) (h : ChannelName) (k j : Channel) → HasMakers (core c) → c.channels h ≡ Some k →
    HasMakers (core (with_channel c h j))
makers_grow c h k j hm e g i f = go (same_channel h g) refl f
  where
    go : (b : Bool) → same_channel h g ≡ b → option_map plain (placed b j (c.channels g)) ≡ Some i → (t : Task) ×
        (c.tasks g.maker ≡ Some t) × (0 < g.count) × (g.count ≤ t.made)
    go true s q = hm g (plain k) (ap (λ z. option_map plain (c.channels z)) (sym (same_channel-same h g s))
        ∙ ap (option_map plain) e)
    go false s q = hm g i q

-- names stay fresh where a task and a channel go on
pub names_grow : (c : Config) (p : Path) (t u : Task) (h : ChannelName) (k j : Channel) → HasMakers (core c) →
    HasParents (core c) → c.tasks p ≡ Some t → Grows t u → c.channels h ≡ Some k →
    HasMakers (core (with_task (with_channel c h j) p u)) × HasParents (core (with_task (with_channel c h j) p u))
names_grow c p t u h k j hm hp e g ek = (
  makers_with (core (with_channel c h j)) p t u (makers_grow c h k j hm ek) e g,
  parents_with (core (with_channel c h j)) p t u hp e g,
)
