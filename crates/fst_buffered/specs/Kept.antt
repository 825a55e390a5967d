-- What is kept of a buffered run, when that is a configuration, and how what happens changes it.
use Rattle.std.specs.Prelude.{◌≡◌, ◌≤◌, ◌<◌, ℕ, zero, suc, Bool, false, Option, Some, None, option_map, ⊤, length, if◌then◌else◌}
use Rattle.fst_terms.specs.CoreTree.{CoreTree}
use Rattle.fst_terms.specs.declared.core_module.Module.{Module}
use Rattle.fst_types.specs.declared.ends.ChannelName.{ChannelName}
use Rattle.fst_types.specs.declared.ends.EndName.{EndName}
use Rattle.fst_machine.specs.declared.code.Code.{Code}
use Rattle.fst_machine.specs.declared.request.Request.{Request}
use Rattle.fst_machine.specs.declared.request.Answer.{Answer}
use Rattle.fst_machine.specs.Machine.{request}
use Rattle.fst_vm.specs.TaskView.{TaskView}
use Rattle.fst_vm.specs.Tasks.{IsFrom, IsIn, IsAtRest, HasNext, Takes, GoesOn, Stays, AsksFor}
use Rattle.fst_vm.specs.Slot.{Slot, has_ended}
use Rattle.fst_vm.specs.Going.{MovesOn}
use Rattle.fst_runs.specs.Configs.{Path, Task, same_channel, same_end, channel_name, program, main_body}
use Rattle.fst_runs.specs.Names.{HasMakers, HasParents}
use Rattle.fst_runs.specs.Wrong.{end_of}
use Rattle.fst_paths.specs.Paths.{put_at}
use Rattle.fst_paths.specs.ChannelLists.{change_channel, put_channel}
use Rattle.fst_buffered.specs.Channels.{Channel, Config, core, started}
use Rattle.fst_buffered.specs.Events.{Occurrence, Does}
use Rattle.fst_buffered.specs.Moving.{can}
use Rattle.fst_buffered.specs.Wrong.{IsRight}

-- what is kept of all tasks and channels: how many channels each task has made, which tasks can move, and which one asked last at
-- each end
pub record Kept : Type 0 where
  pub tasks : Path → Option Slot
  pub channels : ChannelName → Option Channel
  pub made : Path → ℕ
  pub ready : Path → Bool
  pub asker : EndName → Option Path

-- nothing is kept
abbrev pub nothing : Kept
nothing = record {
  tasks = λ p. None;
  channels = λ h. None;
  made = λ p. zero;
  ready = λ p. false;
  asker = λ x. None;
}

-- a channel is changed, if it is there
abbrev pub changed : ChannelName → (Channel → Channel) → Kept → Kept
changed h f d = record {
  tasks = d.tasks;
  channels = change_channel h f d.channels;
  made = d.made;
  ready = d.ready;
  asker = d.asker;
}

-- a task has this channel besides those that it has made; nobody has asked at its ends
abbrev pub added : ChannelName → Channel → Kept → Kept
added h j d = record {
  tasks = d.tasks;
  channels = put_channel h j d.channels;
  made = put_at h.maker (suc (d.made h.maker)) d.made;
  ready = d.ready;
  asker = λ x. if same_channel h x.channel then None else d.asker x;
}

-- ---- who can move, and who asks at ends

-- a task that may be there can move, where the module has so many types
abbrev pub moves_so : ℕ → ℕ → (ChannelName → Option Channel) → Option Slot → Bool
moves_so types capacity channels None = false
moves_so types capacity channels (Some s) = can types capacity channels s.request

-- so can the task with this path
abbrev pub moves : ℕ → ℕ → Kept → Path → Bool
moves types capacity d p = moves_so types capacity d.channels (d.tasks p)

-- who asked last at each end once a task asks at this one, if at one, of a channel that is there
abbrev pub asked : Path → Option EndName → (ChannelName → Option Channel) →
    (EndName → Option Path) → EndName → Option Path
asked p None channels asker = asker
asked p (Some x) channels asker = λ y. if same_end x y then option_map
    (λ k. p) (channels x.channel) else asker y

-- a task asks at this end
abbrev pub asking : Path → EndName → Kept → Kept
asking p x d = record {
  tasks = d.tasks;
  channels = d.channels;
  made = d.made;
  ready = d.ready;
  asker = asked p (Some x) d.channels d.asker;
}

-- what a task asks for is noted: whether it can move, and at which end it asks
abbrev pub noted : ℕ → ℕ → Path → Request → Kept → Kept
noted types capacity p q d = record {
  tasks = d.tasks;
  channels = d.channels;
  made = d.made;
  ready = put_at p (can types capacity d.channels q) d.ready;
  asker = asked p (end_of q) d.channels d.asker;
}

-- a task is put in at a path, and what it asks for is noted
abbrev pub settled : ℕ → ℕ → Path → Slot → Kept → Kept
settled types capacity p s d = record {
  tasks = put_at p (Some s) d.tasks;
  channels = d.channels;
  made = d.made;
  ready = put_at p (can types capacity d.channels s.request) d.ready;
  asker = asked p (end_of s.request) d.channels d.asker;
}

-- which tasks can move once this one, if any, is tested again
abbrev pub retried : ℕ → ℕ → Option Path → Kept → Path → Bool
retried types capacity None d = d.ready
retried types capacity (Some q) d = put_at q (moves types capacity d q) d.ready

-- a task, if any, is tested again
abbrev pub tested : ℕ → ℕ → Option Path → Kept → Kept
tested types capacity o d = record {
  tasks = d.tasks;
  channels = d.channels;
  made = d.made;
  ready = retried types capacity o d;
  asker = d.asker;
}

-- ---- when what is kept is a configuration

-- what is kept of the task with this path is the task
pub record IsTask (m : Module) (k : Code) (p : Path) (s : Slot) (t : Task) : Type 0 where
  pub path : s.task.path ≡ p
  pub rests : IsAtRest k s.task
  pub is_in : IsIn m k s.task t.state
  pub asks : request m.families.items t.state ≡ Some s.request
  pub forked : s.task.forked ≡ t.forked

-- so it is where there is one
abbrev pub AreTask : Module → Code → Path → Option Slot → Option Task → Type 0
AreTask m k p None None = ⊤
AreTask m k p None (Some t) = ⊥
AreTask m k p (Some s) None = ⊥
AreTask m k p (Some s) (Some t) = IsTask m k p s t

-- what is kept is the configuration, after n events: its tasks and channels; how many channels each task has made, the last of
-- which is there; which tasks can move; who asks at an end asked last there; and no clock and no number is over n
pub record Reflects (m : Module) (k : Code) (capacity n : ℕ) (d : Kept)
    (c : Config) : Type 0 where
  pub from : IsFrom m k
  pub tasks : (p : Path) → AreTask m k p (d.tasks p) (c.tasks p)
  pub channels : (h : ChannelName) → d.channels h ≡ c.channels h
  pub made : (p : Path) (t : Task) → c.tasks p ≡ Some t → d.made p ≡ t.made
  pub makers : (p : Path) (i : ℕ) → d.made p ≡ suc i → (j : Channel) ×
      (d.channels (channel_name p i) ≡ Some j)
  pub ready : (p : Path) → d.ready p ≡ moves (length k.types.items) capacity d p
  pub askers : (p : Path) (s : Slot) (x : EndName) → d.tasks p ≡ Some s →
      end_of s.request ≡ Some x → d.asker x ≡ Some p
  pub clocks : (p : Path) (s : Slot) → d.tasks p ≡ Some s → s.clock ≤ n
  pub forks : (p : Path) (s : Slot) → d.tasks p ≡ Some s → s.task.forked ≤ n
  pub makes : (p : Path) → d.made p ≤ n

-- ---- what happens

-- it is possible in the configuration that is kept, and nothing has gone wrong before it or after it
pub record IsPossible (k : Code) (capacity : ℕ) (d : Kept) (e : Occurrence) : Type 0 where
  pub source : Module
  pub events : ℕ
  pub before : Config
  pub after : Config
  pub reflects : Reflects source k capacity events d before
  pub does : Does (program source) source.types.items capacity before e after
  pub right_before : IsRight (program source) before
  pub right_after : IsRight (program source) after
  pub makers : HasMakers (core before)
  pub parents : HasParents (core before)
  pub few : events < 4294967295

-- what is kept after it is the configuration after it
abbrev pub Happens : Code → ℕ → Kept → Occurrence → Kept → Type 0
Happens k capacity d e f =
    (m : Module) (n : ℕ) (c b : Config) → Reflects m k capacity n d c →
    Does (program m) m.types.items capacity c e b → IsRight (program m) c →
    IsRight (program m) b → HasMakers (core c) → HasParents (core c) →
    Reflects m k capacity (suc n) f b

-- the task has come to what it asks for
pub record Settles (k : Code) (t : TaskView) (s : Slot) : Type 0 where
  pub stays : Stays k t s.task
  pub asked : AsksFor k t s.request
  pub rests : IsAtRest k s.task

-- the task, which has not ended, takes the answer and asks for something after it
pub record CanGoOn (k : Code) (d : Kept) (p : Path) (a : Answer) : Type 0 where
  pub slot : Slot
  pub there : d.tasks p ≡ Some slot
  pub path : slot.task.path ≡ p
  pub goes : has_ended slot.request ≡ false
  pub takes : Takes k slot.task a
  pub next : (u : TaskView) → GoesOn k slot.task a u → HasNext k u
  pub few : slot.clock < 4294967295

-- the task with this path has gone on so, and what it asks for then is noted
pub record HasGoneOn (k : Code) (capacity : ℕ) (p : Path) (a : Answer) (d e : Kept) : Type 0 where
  pub slot : Slot
  pub there : d.tasks p ≡ Some slot
  pub now : Slot
  pub moves_on : MovesOn k a zero slot now
  pub after : e ≡ settled (length k.types.items) capacity p now d

-- the code is that of a module whose first configuration is right
pub record CanStart (k : Code) : Type 0 where
  pub source : Module
  pub main : CoreTree
  pub from : IsFrom source k
  pub body : main_body source.globals.items ≡ Some main
  pub right : IsRight (program source) (started main)

-- what is kept is the first configuration of the module whose code this is, where that is right
abbrev pub IsBegun : Code → ℕ → Kept → Type 0
IsBegun k capacity d = (m : Module) (e : CoreTree) → IsFrom m k →
    main_body m.globals.items ≡ Some e → IsRight (program m) (started e) →
    Reflects m k capacity zero d (started e)

-- the task has come to what it asks for, and is put in at its path, with no clock yet
pub record SettlesIn (k : Code) (capacity : ℕ) (t : TaskView) (d e : Kept) : Type 0 where
  pub slot : Slot
  pub settles : Settles k t slot
  pub clock : slot.clock ≡ zero
  pub after : e ≡ settled (length k.types.items) capacity slot.task.path slot d
