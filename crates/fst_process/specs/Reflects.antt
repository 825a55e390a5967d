-- When what is kept is a configuration.
use Rattle.std.specs.Prelude.{◌≡◌, ◌≤◌, ◌↔◌, ℕ, suc, Option, Some, None, option_map, ⊤, length}
use Rattle.fst_lts.specs.Stamps.{StampedTo}
use Rattle.fst_terms.specs.declared.core_module.Module.{Module}
use Rattle.fst_types.specs.declared.ends.ChannelName.{ChannelName}
use Rattle.fst_types.specs.declared.ends.EndName.{EndName}
use Rattle.fst_machine.specs.declared.code.Code.{Code}
use Rattle.fst_machine.specs.Machine.{request}
use Rattle.fst_vm.specs.Tasks.{IsFrom, IsIn, IsAtRest}
use Rattle.fst_runs.specs.Configs as runs
use Rattle.fst_runs.specs.Configs.{Path, Config, Task, channel_name}
use Rattle.fst_vm.specs.Slot.{Slot}
use Rattle.fst_process.specs.Kept.{Channel, Kept, asker, end_of, moves}

-- what is kept of the task with this path is the task
pub record IsTask (m : Module) (k : Code) (d : Kept) (p : Path) (s : Slot) (t : Task) : Type 0 where
  pub path : s.task.path ≡ p
  pub rests : IsAtRest k s.task
  pub is_in : IsIn m k s.task t.state
  pub asks : request m.families.items t.state ≡ Some s.request
  pub clock : s.clock ≡ t.clock
  pub forked : s.task.forked ≡ t.forked
  pub made : d.made p ≡ t.made

-- so it is where there is one
abbrev pub AreTask : Module → Code → Kept → Path → Option Slot → Option Task → Type 0
AreTask m k d p None None = ⊤
AreTask m k d p None (Some t) = ⊥
AreTask m k d p (Some s) None = ⊥
AreTask m k d p (Some s) (Some t) = IsTask m k d p s t

-- a channel without who asks at it
abbrev pub bare : Channel → runs.Channel
bare h = record { declared = h.declared; history = h.history }

-- the task with this path asks at an end
abbrev pub AsksAt : Kept → Path → EndName → Type 0
AsksAt d p x = (s : Slot) × (d.tasks p ≡ Some s) × (end_of s.request ≡ Some x)

-- what is kept is the configuration, after n events: its tasks and channels; which tasks ask at which ends, and can move; that
-- the last channel that a task has made is there; and no number is over n
pub record Reflects (m : Module) (k : Code) (n : ℕ) (d : Kept) (c : Config) : Type 0 where
  pub from : IsFrom m k
  pub tasks : (p : Path) → AreTask m k d p (d.tasks p) (c.tasks p)
  pub channels : (h : ChannelName) → option_map bare (d.channels h) ≡ c.channels h
  pub askers : (x : EndName) (p : Path) → (asker d x ≡ Some p) ↔ AsksAt d p x
  pub ready : (p : Path) → d.ready p ≡ moves (length m.types.items) d p
  pub makers : (p : Path) (i : ℕ) → d.made p ≡ suc i → (j : Channel) ×
      (d.channels (channel_name p i) ≡ Some j)
  pub clocks : (p : Path) (s : Slot) → d.tasks p ≡ Some s → s.clock ≤ n
  pub forks : (p : Path) (s : Slot) → d.tasks p ≡ Some s → s.task.forked ≤ n
  pub makes : (p : Path) → d.made p ≤ n
  pub stamps : (h : ChannelName) (j : Channel) → d.channels h ≡ Some j → StampedTo n j.history
