-- What a report lists of channels.
use Rattle.std.specs.Prelude.{ℕ, zero, suc, ◌++◌, List, [], ◌∷◌}
use Rattle.fst_types.specs.declared.ends.ChannelName.{ChannelName}
use Rattle.fst_types.specs.declared.event.ChannelHistory.{ChannelHistory}
use Rattle.fst_paths.specs.ChannelLists.{ChannelLists}
use Rattle.fst_runs.specs.Configs as runs
use Rattle.fst_runs.specs.Configs.{Path, channel_name}
use Rattle.fst_process.specs.declared.kept.Channel as rust_channel
use Rattle.fst_process.specs.KeptOf.{Channels}

-- a channel of the task with this path, with its number
abbrev pub history_of : Path → ℕ → rust_channel.Channel → ChannelHistory
history_of p n j = record {
  name = record { maker = p; count = n };
  declared = j.declared;
  entries =
      j.entries;
}

-- the channels of the task with this path, which made so many before
abbrev pub histories_of : Path → ℕ → List rust_channel.Channel → List ChannelHistory
histories_of p n [] = []
histories_of p n (j ∷ js) = history_of p (suc n) j ∷ histories_of p (suc n) js

-- all channels
abbrev pub histories_in : Channels → List ChannelHistory
histories_in [] = []
histories_in (e ∷ es) = histories_of e.0.items zero e.1.items ++ histories_in es

-- ---- what is seen of channels in a configuration

-- a channel of a report: its name, and the channel
abbrev pub shown : ChannelHistory → ChannelName × runs.Channel
shown h = (h.name, record { declared = h.declared; history = h.entries.items })

-- the channels of the task with this path as they are seen, where it made so many before
abbrev pub channels_of : {X V : Type 0} → (X → V) → Path → ℕ → List X → List (ChannelName × V)
channels_of view p n [] = []
channels_of view p n (j ∷ js) = (channel_name p n, view j) ∷ channels_of view p (suc n) js

-- all channels as they are seen
abbrev pub channels_in : {X V : Type 0} → (X → V) → ChannelLists X → List (ChannelName × V)
channels_in view [] = []
channels_in view (e ∷ es) = channels_of view e.0.items zero e.1.items ++ channels_in view es
