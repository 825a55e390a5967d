-- What may happen in a configuration, and what it writes; runs.
use Rattle.std.specs.Prelude.{◌≡◌, ℕ, suc, max, Option, Some, None, List, [], ◌∷◌, ◌++◌, slice_get, if◌then◌else◌}
use Rattle.fst_types.specs.Tree.{Tree}
use Rattle.fst_lts.specs.Histories.{over, last_stamp}
use Rattle.fst_types.specs.declared.ends.ChannelName.{ChannelName}
use Rattle.fst_types.specs.declared.ends.EndName.{EndName}
use Rattle.fst_types.specs.declared.event.Event.{Event}
use Rattle.fst_types.specs.declared.event.Entry.{Entry}
use Rattle.fst_machine.specs.Machine.{Program, State, pause, request, answered, child}
use Rattle.fst_machine.specs.declared.request.Request.{Request}
use Rattle.fst_machine.specs.declared.request.Request.TheVariants as request
use Rattle.fst_machine.specs.declared.request.Answer.TheVariants.{Go, Made, Forked, Sent, Got}
use Rattle.fst_runs.specs.declared.event.CoreEvent.{CoreEvent}
use Rattle.fst_runs.specs.declared.event.CoreEvent.TheVariants.{Local, New, Fork, Meet}
use Rattle.fst_runs.specs.Configs.{Path, Task, Channel, Config, same_path, same_channel, other, child_path, channel_name, new_task}

-- what is written: tasks and channels that are new or have changed
pub record Write : Type 0 where
  pub tasks : Path → Option Task
  pub channels : ChannelName → Option Channel

-- the configuration after it
abbrev pub written : Config → Write → Config
written c w = record {
  tasks = λ p. over (w.tasks p) (c.tasks p);
  channels =
      λ h. over (w.channels h) (c.channels h);
}

-- one task is written
abbrev pub task_at : Path → Task → Path → Option Task
task_at p t q = if same_path p q then Some t else None

-- one channel is written
abbrev pub channel_at : ChannelName → Channel → ChannelName → Option Channel
channel_at h k g = if same_channel h g then Some k else None

-- no channel is
abbrev pub no_channel : ChannelName → Option Channel
no_channel h = None

-- the task in its next state, an event later
abbrev pub moved : Task → State → Task
moved t s = record t { state = s; clock = suc t.clock }

-- the stamp of what passes between two tasks over a channel
abbrev pub meeting_stamp : Task → Task → Channel → ℕ
meeting_stamp t u k = suc (max (max t.clock u.clock) (last_stamp k.history))

-- the channel with one more entry
abbrev pub extended : Channel → Entry → Channel
extended k e = record { declared = k.declared; history = k.history ++ e ∷ [] }

-- the task once it has made a channel
abbrev pub has_made : Task → State → ℕ → Task
has_made t s clock = record { state = s; made = suc t.made; forked = t.forked; clock = clock }

-- once it has made a task
abbrev pub has_forked : Task → State → ℕ → Task
has_forked t s clock = record { state = s; made = t.made; forked = suc t.forked; clock = clock }

-- and once it has met another
abbrev pub has_met : Task → State → ℕ → Task
has_met t s clock = record t { state = s; clock = clock }

-- what passes where two tasks meet
abbrev pub passed : Event → Task → Task → Channel → Entry
passed ev t u k = record { event = ev; stamp = meeting_stamp t u k; sent = t.clock; got = u.clock }

-- the task with this path is t, and asks for this
abbrev pub Asks : Program → Config → Path → Task → Request → Type 0
Asks m c p t q = (c.tasks p ≡ Some t) × (request m.families t.state ≡ Some q)

-- the task with this path takes a step of its own, and this is written
pub record DoesStep (m : Program) (c : Config) (p : Path) (w : Write) : Type 0 where
  pub task : Task
  pub state : State
  pub asks : Asks m c p task request.Step
  pub leads : answered m task.state Go ≡ Some state
  pub writes : w ≡ record { tasks = task_at p (moved task state); channels = no_channel }

-- it makes a channel, whose type is the one with the number that it asks for
pub record DoesNew (m : Program) (types : List Tree) (c : Config) (p : Path)
    (w : Write) : Type 0 where
  pub task : Task
  pub state : State
  pub number : ℕ
  pub declared : Tree
  pub asks : Asks m c p task (request.New number)
  pub typed : slice_get types number ≡ Some declared
  pub leads : answered m task.state (Made (channel_name p task.made)) ≡ Some state
  pub writes : w ≡ record {
    tasks = task_at p (has_made task state (suc task.clock));
    channels = channel_at (channel_name p task.made) (record { declared = declared; history = [] });
  }

-- it forks a task, which begins in its first state a clock later
pub record DoesFork (m : Program) (c : Config) (p : Path) (w : Write) : Type 0 where
  pub task : Task
  pub state : State
  pub begun : State
  pub asks : Asks m c p task request.Fork
  pub begins : child (pause m.families task.state) ≡ Some begun
  pub leads : answered m task.state Forked ≡ Some state
  pub writes : w ≡ record {
    tasks = λ q. over (task_at (child_path p task.forked) (new_task begun (suc task.clock)) q)
        (task_at p (has_forked task state (suc task.clock)) q);
    channels = no_channel;
  }

-- the event passes from the task with the first path to the one with the second, over this channel
pub record DoesMeet (m : Program) (c : Config) (p q : Path) (h : ChannelName)
    (w : Write) : Type 0 where
  pub sender : Task
  pub receiver : Task
  pub end : EndName
  pub event : Event
  pub sent : State
  pub got : State
  pub channel : Channel
  pub puts : Asks m c p sender (request.Put end event)
  pub gets : Asks m c q receiver (request.Get (other end))
  pub named : end.channel ≡ h
  pub there : c.channels h ≡ Some channel
  pub sender_leads : answered m sender.state Sent ≡ Some sent
  pub receiver_leads : answered m receiver.state (Got event) ≡ Some got
  pub writes : w ≡ record {
    tasks = λ o. over
        (task_at q (has_met receiver got (meeting_stamp sender receiver channel)) o)
        (task_at p (has_met sender sent (meeting_stamp sender receiver channel)) o);
    channels = channel_at h (extended channel (passed event sender receiver channel));
  }

-- the event is possible, and writes this
abbrev pub Does : Program → List Tree → Config → CoreEvent → Write → Type 0
Does m types c (Local p) w = DoesStep m c p w
Does m types c (New p) w = DoesNew m types c p w
Does m types c (Fork p) w = DoesFork m c p w
Does m types c (Meet p q h) w = DoesMeet m c p q h w

-- the events are possible one after the other, and lead to the second configuration
abbrev pub Runs : Program → List Tree → Config → List CoreEvent → Config → Type 0
Runs m types c [] d = d ≡ c
Runs m types c (e ∷ es) d = (w : Write) × Does m types c e w × Runs m types (written c w) es d

-- no event is possible
abbrev pub IsLast : Program → List Tree → Config → Type 0
IsLast m types c = (e : CoreEvent) (w : Write) → Does m types c e w → ⊥
