-- What is kept, as the maps of the program keep it.
use Rattle.std.specs.Prelude.{ℕ, Option, None, option_map, List}
use Rattle.fst_paths.specs.Paths.{Keys, has_path}
use Rattle.fst_paths.specs.ChannelLists.{ChannelLists, many_in, named_in, numbered}
use Rattle.fst_vm.specs.Slot.{Slot}
use Rattle.fst_vm.specs.SlotOf.{tasks_by_path}
use Rattle.fst_runs.specs.Configs.{Path}
use Rattle.fst_process.specs.declared.kept.Channel as rust_channel
use Rattle.fst_process.specs.declared.config.Config.{Config}
use Rattle.fst_process.specs.Kept.{Channel, Kept}

-- what a channel keeps
abbrev pub channel_of : rust_channel.Channel → Channel
channel_of j = record {
  declared = j.declared;
  history = j.entries.items;
  left = j.left;
  right =
      j.right;
}

-- channels by the paths of their makers, and then in the order in which they were made
abbrev pub Channels : Type 0
Channels = ChannelLists rust_channel.Channel

-- what is kept of the channel with this number, counted from 1
abbrev pub channel_at : List rust_channel.Channel → ℕ → Option Channel
channel_at js n = option_map channel_of (numbered js n)

-- what these tasks, channels and paths of tasks that can move keep
abbrev pub kept_in : (Path → Option Slot) → Channels → Keys → Kept
kept_in tasks js ks = record {
  tasks = tasks;
  channels = named_in channel_of js;
  made = many_in js;
  ready = has_path ks;
}

-- what is kept besides tasks
abbrev pub kept_besides : Channels → Keys → Kept
kept_besides js ks = kept_in (λ p. None) js ks

-- all that is kept
abbrev pub kept_of : Config → Kept
kept_of k = kept_in (tasks_by_path k.tasks) k.channels.by_maker.entries k.ready.keys
