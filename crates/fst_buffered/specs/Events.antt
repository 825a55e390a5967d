-- What may happen in a configuration with channels of some capacity, and what comes of it; runs, and the least one.
use Rattle.std.specs.Prelude.{◌≡◌, ◌≤◌, ℕ, suc, Some, List, [], ◌∷◌, slice_get, length}
use Rattle.fst_types.specs.Tree.{Tree}
use Rattle.fst_types.specs.declared.ends.EndName.{EndName}
use Rattle.fst_types.specs.declared.event.Event.{Event}
use Rattle.fst_machine.specs.Machine.{Program, State, pause, request, answered, child}
use Rattle.fst_machine.specs.declared.request.Request.{Request}
use Rattle.fst_machine.specs.declared.request.Request.TheVariants as request
use Rattle.fst_machine.specs.declared.request.Answer.TheVariants.{Go, Made, Forked, Sent, Got}
use Rattle.fst_runs.specs.Configs.{Path, Task, child_path, channel_name, new_task}
use Rattle.fst_runs.specs.Least.{IsBefore}
use Rattle.fst_buffered.specs.Channels.{Message, Channel, Config, IsWhole, HasRoom, IsNext, further, after_put, with_task, with_channel, opened}

-- what happens in a run
pub data Occurrence : Type 0 where
  -- the task with this path applies a function or uses a global
  local : Path → Occurrence
  -- it makes a channel
  new : Path → Occurrence
  -- it makes a task
  fork : Path → Occurrence
  -- it puts this in at an end
  put : Path → EndName → Event → Occurrence
  -- it takes this at an end
  takes : Path → EndName → Event → Occurrence

-- the task in its next state; no clock is kept
abbrev pub in_state : Task → State → Task
in_state t s = record { state = s; made = t.made; forked = t.forked; clock = t.clock }

-- the task with this path is t, and asks for this
abbrev pub Asks : Program → Config → Path → Task → Request → Type 0
Asks m c p t q = (c.tasks p ≡ Some t) × (request m.families t.state ≡ Some q)

-- it is possible where channels have this capacity, and leads to this configuration
abbrev pub Does : Program → List Tree → ℕ → Config → Occurrence → Config → Type 0
Does m types capacity c (local p) d =
    (t : Task) × (s : State) × Asks m c p t request.Step × (answered m t.state Go ≡ Some s) ×
    (d ≡ with_task c p (in_state t s))
Does m types capacity c (new p) d =
    (t : Task) × (s : State) × (n : ℕ) × (a : Tree) × Asks m c p t (request.New n) ×
    (slice_get types n ≡ Some a) ×
    (answered m t.state (Made (channel_name p t.made)) ≡ Some s) ×
    (d ≡ with_task (with_channel c (channel_name p t.made) (opened a)) p
    (record { state = s; made = suc t.made; forked = t.forked; clock = t.clock }))
Does m types capacity c (fork p) d =
    (t : Task) × (s : State) × (b : State) × Asks m c p t request.Fork ×
    (child (pause m.families t.state) ≡ Some b) × (answered m t.state Forked ≡ Some s) ×
    (d ≡ with_task (with_task c p (record
    { state = s; made = t.made; forked = suc t.forked; clock = t.clock }))
    (child_path p t.forked) (new_task b 0))
Does m types capacity c (put p x ev) d =
    (t : Task) × (s : State) × (k : Channel) × Asks m c p t (request.Put x ev) ×
    (c.channels x.channel ≡ Some k) × IsWhole x.side k × HasRoom capacity x.side k ×
    (answered m t.state Sent ≡ Some s) ×
    (d ≡ with_task (with_channel c x.channel (after_put x.side ev k)) p (in_state t s))
Does m types capacity c (takes p x ev) d =
    (t : Task) × (s : State) × (k : Channel) × (e : Message) × Asks m c p t (request.Get x) ×
    (c.channels x.channel ≡ Some k) × IsNext x.side k e × (e.event ≡ ev) ×
    (answered m t.state (Got ev) ≡ Some s) ×
    (d ≡ with_task (with_channel c x.channel (further x.side k)) p (in_state t s))

-- this happens one after the other, and leads to the second configuration
abbrev pub Runs : Program → List Tree → ℕ → Config → List Occurrence → Config → Type 0
Runs m types capacity c [] d = d ≡ c
Runs m types capacity c (e ∷ es) d =
    (b : Config) × Does m types capacity c e b × Runs m types capacity b es d

-- ---- the least run

-- the path of the task that does it
abbrev pub path_of : Occurrence → Path
path_of (local p) = p
path_of (new p) = p
path_of (fork p) = p
path_of (put p x ev) = p
path_of (takes p x ev) = p

-- the task can move
abbrev pub CanMove : Program → List Tree → ℕ → Config → Path → Type 0
CanMove m types capacity c p = (e : Occurrence) × (d : Config) ×
    (path_of e ≡ p) × Does m types capacity c e d

-- no task with a lesser path than this can move
abbrev pub IsLeast : Program → List Tree → ℕ → Config → Path → Type 0
IsLeast m types capacity c p = (q : Path) → IsBefore q p → CanMove m types capacity c q → ⊥

-- the run in which always the least task moves that can
abbrev pub RunsLeast : Program → List Tree → ℕ → Config → List Occurrence → Config → Type 0
RunsLeast m types capacity c [] d = d ≡ c
RunsLeast m types capacity c (e ∷ es) d =
    (b : Config) × Does m types capacity c e b × IsLeast m types capacity c (path_of e) ×
    RunsLeast m types capacity b es d

-- nothing is possible
abbrev pub IsLast : Program → List Tree → ℕ → Config → Type 0
IsLast m types capacity c = (e : Occurrence) (d : Config) → Does m types capacity c e d → ⊥

-- two least runs with as many events are one; and where nothing is possible after one of them, no other has more
pub record LeastIsOne : Type 0 where
  pub one : (m : Program) (types : List Tree) (capacity : ℕ) (c d e : Config)
      (es fs : List Occurrence) →
      RunsLeast m types capacity c es d → RunsLeast m types capacity c fs e →
      length es ≡ length fs → (es ≡ fs) × (d ≡ e)
  pub longest : (m : Program) (types : List Tree) (capacity : ℕ) (c d e : Config)
      (es fs : List Occurrence) →
      RunsLeast m types capacity c es d → IsLast m types capacity d →
      RunsLeast m types capacity c fs e → length fs ≤ length es
