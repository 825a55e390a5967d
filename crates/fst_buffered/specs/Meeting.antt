-- Runs in which tasks meet, as buffered runs: each meeting is a put and a take directly after it.
use Rattle.std.specs.Prelude.{◌≡◌, ℕ, ◌<◌, Option, Some, None, option_map, List, [], ◌∷◌, ◌++◌, length, ⊤}
use Rattle.fst_types.specs.Tree.{Tree}
use Rattle.fst_lts.specs.Histories.{events_of}
use Rattle.fst_terms.specs.CoreTree.{CoreTree}
use Rattle.fst_types.specs.declared.ends.ChannelName.{ChannelName}
use Rattle.fst_types.specs.declared.ends.EndName.{EndName}
use Rattle.fst_types.specs.declared.event.Event.{Event}
use Rattle.fst_machine.specs.Machine.{Program}
use Rattle.fst_runs.specs.declared.event.CoreEvent.{CoreEvent}
use Rattle.fst_runs.specs.declared.event.CoreEvent.TheVariants.{Local, New, Fork, Meet}
use Rattle.fst_runs.specs.Configs as runs
use Rattle.fst_runs.specs.Configs.{Path, Task, other}
use Rattle.fst_runs.specs.Events as meeting
use Rattle.fst_buffered.specs.Channels.{Message, Channel, Config, started}
use Rattle.fst_buffered.specs.Events.{Occurrence, local, new, fork, put, takes, Runs}

-- an event as what happens with buffers
abbrev pub IsAs : CoreEvent → List Occurrence → Type 0
IsAs (Local p) os = os ≡ local p ∷ []
IsAs (New p) os = os ≡ new p ∷ []
IsAs (Fork p) os = os ≡ fork p ∷ []
IsAs (Meet p q h) os = (x : EndName) × (ev : Event) × (x.channel ≡ h) ×
    (os ≡ put p x ev ∷ takes q (other x) ev ∷ [])

-- so it is with each of these, in their order
abbrev pub AreAs : List CoreEvent → List Occurrence → Type 0
AreAs [] os = os ≡ []
AreAs (e ∷ es) os = (first : List Occurrence) × (rest : List Occurrence) ×
    (os ≡ first ++ rest) × IsAs e first × AreAs es rest

-- a task without its clock
abbrev pub timeless : Task → Task
timeless t = record { state = t.state; made = t.made; forked = t.forked; clock = 0 }

-- the events that were put in
abbrev pub events_in : List Message → List Event
events_in [] = []
events_in (e ∷ es) = e.event ∷ events_in es

-- the same has passed, and both sides have all of it in view
pub record IsPassed (k : runs.Channel) (j : Channel) : Type 0 where
  pub declared : j.declared ≡ k.declared
  pub events : events_in j.history ≡ events_of k.history
  pub left : j.left ≡ length j.history
  pub right : j.right ≡ length j.history

-- so it is where there is a channel
abbrev pub ArePassed : Option runs.Channel → Option Channel → Type 0
ArePassed None None = ⊤
ArePassed None (Some j) = ⊥
ArePassed (Some k) None = ⊥
ArePassed (Some k) (Some j) = IsPassed k j

-- the tasks are the same but for their clocks, and the same has passed over the channels
pub record IsSame (c : runs.Config) (d : Config) : Type 0 where
  pub tasks : (p : Path) → d.tasks p ≡ option_map timeless (c.tasks p)
  pub channels : (h : ChannelName) → ArePassed (c.channels h) (d.channels h)

-- each run in which tasks meet is a buffered run, for every capacity but 0
abbrev pub MeetingIsBuffered : Type 0
MeetingIsBuffered =
    (m : Program) (types : List Tree) (capacity : ℕ) → 0 < capacity →
    (e : CoreTree) (es : List CoreEvent) (c : runs.Config) →
    meeting.Runs m types (runs.started e) es c →
    (os : List Occurrence) × (d : Config) × AreAs es os × Runs m types capacity (started e) os d ×
    IsSame c d
