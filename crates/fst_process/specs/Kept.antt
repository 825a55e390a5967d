-- What is kept of a configuration, and how single steps change it.
use Rattle.std.specs.Prelude.{ℕ, zero, suc, Bool, true, false, Option, Some, None, option_and_then, is_some, List, [], ◌∷◌, ◌++◌, nat_lt}
use Rattle.fst_types.specs.Tree.{Tree}
use Rattle.fst_types.specs.declared.side.Side.{Side}
use Rattle.fst_types.specs.declared.side.Side.TheVariants.{Left, Right}
use Rattle.fst_lts.specs.Histories.{opposite}
use Rattle.fst_types.specs.declared.ends.ChannelName.{ChannelName}
use Rattle.fst_types.specs.declared.ends.EndName.{EndName}
use Rattle.fst_types.specs.declared.event.Entry.{Entry}
use Rattle.fst_machine.specs.declared.request.Request.{Request}
use Rattle.fst_machine.specs.declared.request.Request.TheVariants.{Step, New, Fork, Put, Get, Ended}
use Rattle.fst_paths.specs.Paths.{put_at}
use Rattle.fst_paths.specs.ChannelLists.{change_channel, put_channel}
use Rattle.fst_vm.specs.Slot.{Slot}
use Rattle.fst_runs.specs.Configs.{Path}
pub use Rattle.fst_runs.specs.Wrong.{end_of}

-- what is kept of a channel: the type of its left end, what passed over it, and which tasks ask at its ends
pub record Channel : Type 0 where
  pub declared : Tree
  pub history : List Entry
  pub left : Option Path
  pub right : Option Path

-- what is kept of all tasks and channels; how many channels each task has made; and which tasks can move
pub record Kept : Type 0 where
  pub tasks : Path → Option Slot
  pub channels : ChannelName → Option Channel
  pub made : Path → ℕ
  pub ready : Path → Bool

-- the task that asks at an end
abbrev pub asker_at : Side → Channel → Option Path
asker_at Left k = k.left
asker_at Right k = k.right

-- with this task, or none, that asks at an end
abbrev pub with_asker : Side → Option Path → Channel → Channel
with_asker Left o k = record k { left = o }
with_asker Right o k = record k { right = o }

-- the task that asks at an end, if there is such a channel
abbrev pub asker : Kept → EndName → Option Path
asker d x = option_and_then (asker_at x.side) (d.channels x.channel)

-- the task that asks at the other end
abbrev pub partner : Kept → EndName → Option Path
partner d x = asker d (record { channel = x.channel; side = opposite x.side })

-- a task that asks for this can move, where the module has so many types
abbrev pub moves_with : ℕ → Kept → Request → Bool
moves_with types d Step = true
moves_with types d (New n) = nat_lt n types
moves_with types d Fork = true
moves_with types d (Put x ev) = is_some (partner d x)
moves_with types d (Get x) = is_some (partner d x)
moves_with types d Ended = false

-- so can the task, if there is one
abbrev pub moves_so : ℕ → Kept → Option Slot → Bool
moves_so types d None = false
moves_so types d (Some s) = moves_with types d s.request

-- the task with this path can move
abbrev pub moves : ℕ → Kept → Path → Bool
moves types d p = moves_so types d (d.tasks p)

-- a task that can't move
abbrev pub unable : Path → Kept → Kept
unable p d = record d { ready = put_at p false d.ready }

-- without a task
abbrev pub without : Path → Kept → Kept
without p d = record d { tasks = put_at p None d.tasks; ready = put_at p false d.ready }

-- a channel is changed, if it is there
abbrev pub changed : ChannelName → (Channel → Channel) → Kept → Kept
changed h f d = record d { channels = change_channel h f d.channels }

-- a task is marked, if this holds
abbrev pub marked : Bool → Path → (Path → Bool) → Path → Bool
marked true p f = put_at p true f
marked false p f = f

-- a task and its partner are marked, if the partner is there
abbrev pub marked_both : Path → Option Path → (Path → Bool) → Path → Bool
marked_both p None f = f
marked_both p (Some q) f = put_at p true (put_at q true f)

-- the task can move, if this holds
abbrev pub able : Bool → Path → Kept → Kept
able b p d = record d { ready = marked b p d.ready }

-- the task asks at the end, and can move with its partner if that is there
abbrev pub asking : Path → EndName → Kept → Kept
asking p x d = record (changed x.channel (with_asker x.side (Some p)) d)
    { ready = marked_both p (partner d x) d.ready }

-- what a task asks for is noted: where it can move, or at which end it asks
abbrev pub noted : ℕ → Path → Request → Kept → Kept
noted types p Step d = able true p d
noted types p (New n) d = able (nat_lt n types) p d
noted types p Fork d = able true p d
noted types p (Put x ev) d = asking p x d
noted types p (Get x) d = asking p x d
noted types p Ended d = d

-- a task is put in at a path, and what it asks for is noted
abbrev pub settled_at : ℕ → Path → Slot → Kept → Kept
settled_at types p s d = noted types p s.request (record d { tasks = put_at p (Some s) d.tasks })

-- so it is at the task's own path
abbrev pub settled : ℕ → Slot → Kept → Kept
settled types s d = settled_at types s.task.path s d

-- nothing is kept
abbrev pub nothing : Kept
nothing = record { tasks = λ p. None; channels = λ h. None; made = λ p. zero; ready = λ p. false }

-- a task has this channel besides those that it has made
abbrev pub added : ChannelName → Channel → Kept → Kept
added h j d = record d {
  channels = put_channel h j d.channels;
  made =
      put_at h.maker (suc (d.made h.maker)) d.made;
}

-- a new channel of a task
abbrev pub opened : ChannelName → Tree → Kept → Kept
opened h t d = added h (record { declared = t; history = []; left = None; right = None }) d

-- an entry is added to a channel, and nobody asks at its ends any more
abbrev pub passed : Entry → Channel → Channel
passed e k = record {
  declared = k.declared;
  history = k.history ++ e ∷ [];
  left = None;
  right =
      None;
}
