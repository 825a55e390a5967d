-- Tasks and channels that are handed in, and when they are a configuration.
use Rattle.std.specs.Prelude.{◌≡◌, ◌≤◌, ℕ, zero, suc, Option, Some, None, List, [], ◌∷◌, ⊤, if◌then◌else◌}
use Rattle.fst_terms.specs.declared.core_module.Module.{Module}
use Rattle.fst_types.specs.declared.ends.ChannelName.{ChannelName}
use Rattle.fst_types.specs.declared.event.ChannelHistory.{ChannelHistory}
use Rattle.fst_machine.specs.declared.code.Code.{Code}
use Rattle.fst_vm.specs.TaskView.{TaskView}
use Rattle.fst_vm.specs.Tasks.{IsFrom, IsIn, HasNext}
use Rattle.fst_runs.specs.Configs.{Path, Config, Task, Histories, same_path, channel_in, channel_name, ChannelsWithin, program}
use Rattle.fst_runs.specs.Wrong.{IsRight}
use Rattle.fst_paths.specs.Paths.{put_at}
use Rattle.fst_process.specs.Kept.{Channel, Kept, added}
use Rattle.fst_process.specs.Reflects.{Reflects}
use Rattle.fst_process.specs.Firing.{Settles}

-- tasks with their clocks
abbrev pub Tasks : Type 0
Tasks = List (TaskView × ℕ)

-- the first of these tasks that has this path
abbrev pub task_in : Tasks → Path → Option (TaskView × ℕ)
task_in [] p = None
task_in (t ∷ ts) p = if same_path t.0.path p then Some t else task_in ts p

-- no two of these tasks have one path
abbrev pub AreApart : Tasks → Type 0
AreApart [] = ⊤
AreApart (t ∷ ts) = (task_in ts t.0.path ≡ None) × AreApart ts

-- how many of these channels the task with this path has made
abbrev pub made_by : Path → Histories → ℕ
made_by p [] = zero
made_by p (h ∷ hs) = if same_path h.name.maker p then suc (made_by p hs) else made_by p hs

-- where each task has made so many channels before, those that it has made here have the next numbers, in order
abbrev pub AreNumbered : (Path → ℕ) → Histories → Type 0
AreNumbered f [] = ⊤
AreNumbered f (h ∷ hs) = (h.name.count ≡ suc (f h.name.maker)) ×
    AreNumbered (put_at h.name.maker (suc (f h.name.maker)) f) hs

-- the task that is handed in with this clock is that of the configuration at its path, and has made those of the channels that
-- have its path as their maker
pub record IsThere (m : Module) (k : Code) (hs : Histories) (c : Config) (t : TaskView)
    (l : ℕ) : Type 0 where
  pub task : Task
  pub there : c.tasks t.path ≡ Some task
  pub is_in : IsIn m k t task.state
  pub made : made_by t.path hs ≡ task.made
  pub forked : t.forked ≡ task.forked
  pub clock : l ≡ task.clock

-- so is each of these tasks
abbrev pub AreThere : Module → Code → Histories → Config → Tasks → Type 0
AreThere m k hs c [] = ⊤
AreThere m k hs c (t ∷ ts) = IsThere m k hs c t.0 t.1 × AreThere m k hs c ts

-- these are all tasks and all channels of the configuration; the channels of each task are numbered 1, 2 and so on, in order
pub record AreAll (m : Module) (k : Code) (ts : Tasks) (hs : Histories) (c : Config) : Type 0 where
  pub from : IsFrom m k
  pub tasks : AreThere m k hs c ts
  pub apart : AreApart ts
  pub no_others : (p : Path) → task_in ts p ≡ None → c.tasks p ≡ None
  pub channels : (h : ChannelName) → c.channels h ≡ channel_in hs h
  pub numbered : AreNumbered (λ p. zero) hs

-- no clock of these tasks, and no number of tasks that they forked, is over n
abbrev pub TasksWithin : ℕ → Tasks → Type 0
TasksWithin n [] = ⊤
TasksWithin n (t ∷ ts) = (t.1 ≤ n) × (t.0.forked ≤ n) × TasksWithin n ts

-- these are all tasks and all channels of a right configuration of a module whose code this is
pub record CanResume (k : Code) (ts : Tasks) (hs : Histories) : Type 0 where
  pub source : Module
  pub config : Config
  pub all : AreAll source k ts hs config
  pub right : IsRight (program source) config

-- what is kept is each right configuration whose tasks and channels these are, after n events where no number is over n
abbrev pub IsResumed : Code → Tasks → Histories → Kept → Type 0
IsResumed k ts hs d =
    (m : Module) (n : ℕ) (c : Config) → AreAll m k ts hs c → IsRight (program m) c →
    TasksWithin n ts → ChannelsWithin n hs → Reflects m k n d c

-- a channel at whose ends no task asks yet
abbrev pub unasked : ChannelHistory → Channel
unasked h = record { declared = h.declared; history = h.entries.items; left = None; right = None }

-- these channels are put in, each behind those of its maker
abbrev pub restored : Histories → Kept → Kept
restored [] d = d
restored (h ∷ hs) d = restored hs (added (channel_name h.name.maker (d.made h.name.maker))
    (unasked h) d)

-- each of these tasks is in a state that has a next request
abbrev pub HaveNext : Code → Tasks → Type 0
HaveNext k [] = ⊤
HaveNext k (t ∷ ts) = HasNext k t.0 × HaveNext k ts

-- these tasks have come to what they ask for, and are put in with that and their clocks
abbrev pub AreSettled : Code → Tasks → Kept → Kept → Type 0
AreSettled k [] d e = e ≡ d
AreSettled k (t ∷ ts) d e = (f : Kept) × Settles k t.0 t.1 d f × AreSettled k ts f e
