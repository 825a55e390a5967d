-- A record of a run: the logs of all its tasks and the histories of all its channels, and when they fit.
use Rattle.std.specs.Prelude.{◌≡◌, ℕ, ◌+◌, Option, Some, None, IsSome, List, [], ◌∷◌, length, sum_by, All, if◌then◌else◌}
use Rattle.fst_types.specs.Tree.{Tree}
use Rattle.fst_types.specs.declared.side.Side.{Side}
use Rattle.fst_types.specs.declared.side.Side.TheVariants.{Left, Right}
use Rattle.fst_types.specs.declared.ends.ChannelName.{ChannelName}
use Rattle.fst_types.specs.declared.event.ChannelHistory.{ChannelHistory}
use Rattle.fst_types.specs.declared.event.Entry.{Entry}
use Rattle.fst_kinds.specs.WellFormed.{IsSession}
use Rattle.fst_lts.specs.Histories.{after_history, side_type}
use Rattle.fst_lts.specs.Stamps.{AreStamped}
use Rattle.fst_terms.specs.CoreTree.{CoreTree}
use Rattle.fst_machine.specs.Machine.{Program, begins}
use Rattle.fst_runs.specs.declared.log.LogEntry.{LogEntry}
use Rattle.fst_runs.specs.Configs.{Path, Task, Config, same_path, main_path, new_task, channel_in}
use Rattle.fst_runs.specs.Logs.{Birth, Exchange, Opening, Follows, births, exchanges, openings, parts_in}

-- ---- the courses of tasks

-- how a task has come along: its path, how it began, its log, and how it is now
pub record Course : Type 0 where
  pub path : Path
  pub first : Task
  pub log : List LogEntry
  pub now : Task

-- how it began
abbrev pub began : Course → Birth
began y = record { path = y.path; first = y.first }

-- how main begins at this term
abbrev pub main_birth : CoreTree → Birth
main_birth e = record { path = main_path; first = new_task (begins e []) 0 }

-- the births that its log makes, the channels that it opens, and what it exchanges, however these are weighed
abbrev pub bears : Program → (Birth → ℕ) → Course → ℕ
bears m w y = sum_by w (births m y.path y.first y.log)

-- the channels
abbrev pub opens : List Tree → (ChannelName → Tree → ℕ) → Course → ℕ
opens types w y = sum_by (λ (o : Opening). w o.name o.declared) (openings types y.log)

-- the exchanges
abbrev pub trades : (Exchange → ℕ) → Course → ℕ
trades w y = sum_by w (exchanges y.first.clock y.log)

-- its log leads from a task that has made and forked nothing yet to the one that is there now, and each channel that it made has a type
-- of the module
pub record IsLogged (m : Program) (types : List Tree) (y : Course) : Type 0 where
  pub none_made : y.first.made ≡ 0
  pub none_forked : y.first.forked ≡ 0
  pub follows : Follows m y.path y.first y.log y.now
  pub opened : length (openings types y.log) ≡ y.now.made

-- ---- histories

-- one side's part in a history
abbrev pub shown_of : ChannelName → Side → Tree → List Entry → List Exchange
shown_of h s t es = parts_in (record { channel = h; side = s }) (Some (side_type s t)) es

-- what passed over a channel, as the parts of both sides
abbrev pub shows : (Exchange → ℕ) → ChannelHistory → ℕ
shows w k = sum_by w (shown_of k.name Left k.declared k.entries.items) + sum_by w
    (shown_of k.name Right k.declared k.entries.items)

-- the history is a trace of its channel's type, with its stamps
pub record IsRecorded (k : ChannelHistory) : Type 0 where
  pub formed : IsSession [] k.declared
  pub trace : IsSome (after_history k.declared k.entries.items)
  pub stamped : AreStamped 0 k.entries.items

-- ---- records

-- the logs of these tasks and these histories are a record that fits the module, whose main begins so
pub record FitsRecord (m : Program) (types : List Tree) (main : Birth) (ys : List Course)
    (ks : List ChannelHistory) : Type 0 where
  -- the tasks are main's, whose path is 0, and those that the logs fork, each as its fork gives it
  pub root : main.path ≡ main_path
  pub births : (w : Birth → ℕ) → sum_by
      (λ (y : Course). w (began y)) ys ≡ w main + sum_by (bears m w) ys
  pub logs : All (IsLogged m types) ys
  -- the channels are those that the logs make, each with its declared type
  pub channels : (w : ChannelName → Tree → ℕ) → sum_by
      (λ (k : ChannelHistory). w k.name k.declared) ks ≡ sum_by (opens types w) ys
  -- what passed over them is what the logs exchange, with events, stamps, sides and clocks
  pub exchanged : (w : Exchange → ℕ) → sum_by (shows w) ks ≡ sum_by (trades w) ys
  pub histories : All IsRecorded ks

-- ---- what stands in a record

-- the task of the first of these courses that has this path
abbrev pub task_of : List Course → Path → Option Task
task_of [] p = None
task_of (y ∷ ys) p = if same_path y.path p then Some y.now else task_of ys p

-- its log
abbrev pub log_of : List Course → Path → List LogEntry
log_of [] p = []
log_of (y ∷ ys) p = if same_path y.path p then y.log else log_of ys p

-- the tasks of these courses, and these channels
abbrev pub config_of : List Course → List ChannelHistory → Config
config_of ys ks = record { tasks = task_of ys; channels = channel_in ks }
