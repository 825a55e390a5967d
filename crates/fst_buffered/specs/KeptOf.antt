-- What is kept, as the maps of the program keep it.
use Rattle.std.specs.Prelude.{ℕ, Option, None, option_map, option_and_then, List}
use Rattle.fst_types.specs.declared.side.Side.{Side}
use Rattle.fst_types.specs.declared.side.Side.TheVariants.{Left, Right}
use Rattle.fst_types.specs.declared.ends.ChannelName.{ChannelName}
use Rattle.fst_types.specs.declared.ends.EndName.{EndName}
use Rattle.fst_paths.specs.Paths.{Keys, has_path}
use Rattle.fst_paths.specs.ChannelLists.{ChannelLists, many_in, named_in, numbered}
use Rattle.fst_vm.specs.Slot.{Slot}
use Rattle.fst_vm.specs.SlotOf.{tasks_by_path}
use Rattle.fst_runs.specs.Configs as runs
use Rattle.fst_runs.specs.Configs.{Path}
use Rattle.fst_buffered.specs.declared.kept.Channel as rust_channel
use Rattle.fst_buffered.specs.declared.config.Config.{Config}
use Rattle.fst_buffered.specs.Channels.{Channel, plain}
use Rattle.fst_buffered.specs.Kept.{Kept}

-- what a channel keeps
abbrev pub channel_of : rust_channel.Channel → Channel
channel_of j = record {
  declared = j.declared;
  history = j.entries.items;
  left = j.left;
  right =
      j.right;
}

-- so with all that was put in, as one at which tasks meet
abbrev pub plain_of : rust_channel.Channel → runs.Channel
plain_of j = plain (channel_of j)

-- a channel, and which tasks asked last at its ends
pub record Held : Type 0 where
  pub channel : Channel
  pub left : Option Path
  pub right : Option Path

-- so a channel keeps it
abbrev pub held_of : rust_channel.Channel → Held
held_of j = record { channel = channel_of j; left = j.left_asker; right = j.right_asker }

-- the task that asked last at an end
abbrev pub asker_at : Side → Held → Option Path
asker_at Left k = k.left
asker_at Right k = k.right

-- with this task, or none, that asked last at an end
abbrev pub with_asker : Side → Option Path → Held → Held
with_asker Left o k = record { channel = k.channel; left = o; right = k.right }
with_asker Right o k = record { channel = k.channel; left = k.left; right = o }

-- with a channel that is changed
abbrev pub with_changed : (Channel → Channel) → Held → Held
with_changed f k = record { channel = f k.channel; left = k.left; right = k.right }

-- channels by the paths of their makers, and then in the order in which they were made
abbrev pub Channels : Type 0
Channels = ChannelLists rust_channel.Channel

-- the channel with this number, counted from 1, and who asked last at its ends
abbrev pub held_at : List rust_channel.Channel → ℕ → Option Held
held_at js n = option_map held_of (numbered js n)

-- the channel with this name, and who asked last at its ends
abbrev pub held_in : Channels → ChannelName → Option Held
held_in js h = named_in held_of js h

-- the channel alone
abbrev pub channel_in : Channels → ChannelName → Option Channel
channel_in js h = option_map (λ (j : Held). j.channel) (held_in js h)

-- the task that asked last at this end
abbrev pub asker_in : Channels → EndName → Option Path
asker_in js x = option_and_then (asker_at x.side) (held_in js x.channel)

-- what these tasks, channels and paths of tasks that can move keep
abbrev pub kept_in : (Path → Option Slot) → Channels → Keys → Kept
kept_in tasks js ks = record {
  tasks = tasks;
  channels = channel_in js;
  made = many_in js;
  ready = has_path ks;
  asker = asker_in js;
}

-- what is kept besides tasks
abbrev pub kept_besides : Channels → Keys → Kept
kept_besides js ks = kept_in (λ p. None) js ks

-- all that is kept
abbrev pub kept_of : Config → Kept
kept_of k = kept_in (tasks_by_path k.tasks) k.channels.by_maker.entries k.ready.keys
