-- A configuration: all tasks by their paths, and all channels by their names.
use Rattle.std.specs.Prelude.{◌≤◌, ℕ, zero, suc, Bool, true, false, ◌&&◌, Option, Some, None, option_and_then, List, [], ◌∷◌, ◌++◌, if◌then◌else◌, ⊤}
use Rattle.fst_types.specs.Tree.{Tree}
use Rattle.fst_types.specs.declared.side.Side.{Side}
use Rattle.fst_types.specs.declared.side.Side.TheVariants.{Left, Right}
use Rattle.fst_lts.specs.Histories.{over, after_history, side_type, opposite}
use Rattle.fst_lts.specs.Stamps.{StampedTo}
use Rattle.fst_terms.specs.CoreTree.{CoreTree}
use Rattle.fst_types.specs.declared.ends.ChannelName.{ChannelName}
use Rattle.fst_types.specs.declared.ends.EndName.{EndName}
use Rattle.fst_types.specs.declared.event.ChannelHistory.{ChannelHistory}
use Rattle.fst_types.specs.declared.event.Entry.{Entry}
use Rattle.fst_machine.specs.Machine.{State, begins}
pub use Rattle.fst_machine.specs.Programs.{bodies, program, main_body}
pub use Rattle.fst_paths.specs.Paths.{Path, main_path, same_path}
pub use Rattle.fst_paths.specs.ChannelLists.{same_channel}

-- a task: its state, how many channels it has made, how many tasks it has forked, and its clock
pub record Task : Type 0 where
  pub state : State
  pub made : ℕ
  pub forked : ℕ
  pub clock : ℕ

-- a channel: the type of its left end when it was made, and what passed over it, the earliest first
pub record Channel : Type 0 where
  pub declared : Tree
  pub history : List Entry

-- a configuration: all tasks and channels of a run
pub record Config : Type 0 where
  pub tasks : Path → Option Task
  pub channels : ChannelName → Option Channel

-- the sides are the same
abbrev pub same_side : Side → Side → Bool
same_side Left Left = true
same_side Left Right = false
same_side Right Left = false
same_side Right Right = true

-- the ends are the same
abbrev pub same_end : EndName → EndName → Bool
same_end x y = same_channel x.channel y.channel && same_side x.side y.side

-- the other end of the same channel
abbrev pub other : EndName → EndName
other x = record { channel = x.channel; side = opposite x.side }

-- the type that an end of the channel still has before it
abbrev pub channel_residual : Side → Channel → Option Tree
channel_residual side k = after_history (side_type side k.declared) k.history

-- the residual of an end
abbrev pub residual_in : Config → EndName → Option Tree
residual_in c x = option_and_then (channel_residual x.side) (c.channels x.channel)

-- the path of the k-th task that the task with the path p forks, where it has forked so many
abbrev pub child_path : Path → ℕ → Path
child_path p forked = p ++ suc forked ∷ []

-- the name of the next channel of the task with the path p, where it has made so many
abbrev pub channel_name : Path → ℕ → ChannelName
channel_name p made = record { maker = p; count = suc made }

-- a task that begins at this clock
abbrev pub new_task : State → ℕ → Task
new_task s clock = record { state = s; made = zero; forked = zero; clock = clock }

-- the one task main at this term, and no channel
abbrev pub started : CoreTree → Config
started e = record {
  tasks = λ p. if same_path main_path p then Some (new_task (begins e []) zero) else None;
  channels = λ h. None;
}

-- ---- channels in a list

-- channels with what passed over them
abbrev pub Histories : Type 0
Histories = List ChannelHistory

-- the channel, if its name is this
abbrev pub named_so : ChannelHistory → ChannelName → Option Channel
named_so h g = if same_channel h.name g then Some
    (record { declared = h.declared; history = h.entries.items }) else None

-- the last of these channels that has this name
abbrev pub channel_in : Histories → ChannelName → Option Channel
channel_in [] g = None
channel_in (h ∷ hs) g = over (channel_in hs g) (named_so h g)

-- no number of these channels, and no stamp of what passed over them, is over n
abbrev pub ChannelsWithin : ℕ → Histories → Type 0
ChannelsWithin n [] = ⊤
ChannelsWithin n (h ∷ hs) = (h.name.count ≤ n) × StampedTo n h.entries.items × ChannelsWithin n hs
