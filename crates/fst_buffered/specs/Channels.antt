-- Channels that hold what one side has put in until the other side takes it, and configurations with them.
use Rattle.std.specs.Prelude.{◌≡◌, ◌<◌, ◌≤◌, ℕ, zero, suc, ◌+◌, ◌-◌, min, Bool, true, false, Option, Some, None, option_map, option_and_then, List, [], ◌∷◌, ◌++◌, length, take, slice_get}
use Rattle.fst_types.specs.Tree.{Tree}
use Rattle.fst_types.specs.declared.side.Side.{Side}
use Rattle.fst_types.specs.declared.side.Side.TheVariants.{Left, Right}
use Rattle.fst_lts.specs.Histories.{after_history, side_type, opposite}
use Rattle.fst_terms.specs.CoreTree.{CoreTree}
use Rattle.fst_types.specs.declared.ends.ChannelName.{ChannelName}
use Rattle.fst_types.specs.declared.ends.EndName.{EndName}
use Rattle.fst_types.specs.declared.event.Event.{Event}
use Rattle.fst_types.specs.declared.event.Entry.{Entry}
use Rattle.fst_runs.specs.Configs as runs
-- what was put into a channel, and by which side
pub use Rattle.fst_buffered.specs.declared.message.Message.{Message}
use Rattle.fst_runs.specs.Configs.{Path, Task, same_path, same_channel}

-- a channel: the type of its left end when it was made, all that was put in, the earliest first, and how much of that each side
-- has put in or taken
pub record Channel : Type 0 where
  pub declared : Tree
  pub history : List Message
  pub left : ℕ
  pub right : ℕ

-- all tasks and channels of a run
pub record Config : Type 0 where
  pub tasks : Path → Option Task
  pub channels : ChannelName → Option Channel

-- ---- views

-- how much of the history a side has put in or taken
abbrev pub seen : Side → Channel → ℕ
seen Left k = k.left
seen Right k = k.right

-- the side's view: what it has put in or taken, which is the beginning of the history
abbrev pub view : Side → Channel → List Message
view s k = take (seen s k) k.history

-- how many entries one side has not taken
abbrev pub unread : Channel → ℕ
unread k = length k.history - min k.left k.right

-- so it is for a channel with its name
abbrev pub unread_of : ChannelName × Channel → ℕ
unread_of x = unread x.1

-- no side's view is longer than the history
abbrev pub IsWithin : Channel → Type 0
IsWithin k = (s : Side) → seen s k ≤ length k.history

-- so it is with each channel
abbrev pub AreWithin : Config → Type 0
AreWithin c = (h : ChannelName) (k : Channel) → c.channels h ≡ Some k → IsWithin k

-- what was put in, as the entry of a report: without stamps
abbrev pub entry : Message → Entry
entry e = record { event = e.event; stamp = 0; sent = 0; got = 0 }

-- so for each
abbrev pub entries : List Message → List Entry
entries [] = []
entries (e ∷ es) = entry e ∷ entries es

-- the type that a side still has before it, by its own view
abbrev pub side_residual : Side → Channel → Option Tree
side_residual s k = after_history (side_type s k.declared) (entries (view s k))

-- the residual of an end
abbrev pub residual_in : Config → EndName → Option Tree
residual_in c x = option_and_then (side_residual x.side) (c.channels x.channel)

-- ---- what a side may do

-- the side's view is the whole history
abbrev pub IsWhole : Side → Channel → Type 0
IsWhole s k = seen s k ≡ length k.history

-- the other side's view lacks fewer entries than the capacity
abbrev pub HasRoom : ℕ → Side → Channel → Type 0
HasRoom capacity s k = length k.history < seen (opposite s) k + capacity

-- the next entry that the side's view lacks
abbrev pub IsNext : Side → Channel → Message → Type 0
IsNext s k e = slice_get k.history (seen s k) ≡ Some e

-- the channel where the side has one more entry in view
abbrev pub further : Side → Channel → Channel
further Left k = record {
  declared = k.declared;
  history = k.history;
  left = suc k.left;
  right =
      k.right;
}
further Right k = record {
  declared = k.declared;
  history = k.history;
  left = k.left;
  right =
      suc k.right;
}

-- with one more entry
abbrev pub extended : Channel → Message → Channel
extended k e = record {
  declared = k.declared;
  history = k.history ++ e ∷ [];
  left = k.left;
  right =
      k.right;
}

-- the channel after a side has put something in
abbrev pub after_put : Side → Event → Channel → Channel
after_put s ev k = further s (extended k (record { side = s; event = ev }))

-- ---- configurations

-- what is put in by a test, or else what was there
abbrev pub placed : {X : Type 0} → Bool → X → Option X → Option X
placed true x o = Some x
placed false x o = o

-- the configuration with this task at its path
abbrev pub with_task : Config → Path → Task → Config
with_task c p t = record {
  tasks = λ q. placed (same_path p q) t (c.tasks q);
  channels =
      c.channels;
}

-- with this channel at its name
abbrev pub with_channel : Config → ChannelName → Channel → Config
with_channel c h k = record {
  tasks = c.tasks;
  channels =
      λ g. placed (same_channel h g) k (c.channels g);
}

-- a new channel
abbrev pub opened : Tree → Channel
opened t = record { declared = t; history = []; left = zero; right = zero }

-- a channel with all that was put in, as one at which tasks meet
abbrev pub plain : Channel → runs.Channel
plain k = record { declared = k.declared; history = entries k.history }

-- the configuration, as one in which tasks meet: who is there, and which channels
abbrev pub core : Config → runs.Config
core c = record { tasks = c.tasks; channels = λ h. option_map plain (c.channels h) }

-- the one task main at this term, and no channel
abbrev pub started : CoreTree → Config
started e = record { tasks = (runs.started e).tasks; channels = λ h. None }
