-- What a task's log says: that it leads from one state to another, and what the task does at its entries.
use Rattle.std.specs.Prelude.{◌≡◌, ℕ, suc, ◌<◌, Bool, true, false, Option, Some, None, List, [], ◌∷◌, ◌++◌, slice_get}
use Rattle.fst_types.specs.Tree.{Tree}
use Rattle.fst_lts.specs.Histories.{after_event}
use Rattle.fst_lts.specs.Residuals.{sends}
use Rattle.fst_types.specs.declared.ends.ChannelName.{ChannelName}
use Rattle.fst_types.specs.declared.ends.EndName.{EndName}
use Rattle.fst_types.specs.declared.event.Event.{Event}
use Rattle.fst_types.specs.declared.event.Entry.{Entry}
use Rattle.fst_machine.specs.declared.request.Request.{Request}
use Rattle.fst_machine.specs.declared.request.Request.TheVariants.{Step, New, Fork, Put, Get}
use Rattle.fst_machine.specs.declared.request.Answer.{Answer}
use Rattle.fst_machine.specs.declared.request.Answer.TheVariants.{Go, Made, Forked, Sent, Got}
use Rattle.fst_machine.specs.Machine.{Program, State, pause, request, answered, or_lost, child}
use Rattle.fst_runs.specs.Configs.{Path, Task, child_path, channel_name, new_task}
use Rattle.fst_runs.specs.declared.log.LogEntry.{LogEntry}

-- one side's part in what passes over a channel: its end, whether it sends, what, the stamp, and its task's clock just before
pub record Exchange : Type 0 where
  pub end : EndName
  pub sends : Bool
  pub event : Event
  pub stamp : ℕ
  pub clock : ℕ

-- how a task begins
pub record Birth : Type 0 where
  pub path : Path
  pub first : Task

-- a channel that is made, with its declared type
pub record Opening : Type 0 where
  pub name : ChannelName
  pub declared : Tree

-- ---- one entry

-- how many channels a task has made after an answer
abbrev pub made_after : Answer → ℕ → ℕ
made_after Go n = n
made_after (Made h) n = suc n
made_after Forked n = n
made_after Sent n = n
made_after (Got ev) n = n

-- how many tasks it has forked
abbrev pub forks_after : Answer → ℕ → ℕ
forks_after Go n = n
forks_after (Made h) n = n
forks_after Forked n = suc n
forks_after Sent n = n
forks_after (Got ev) n = n

-- the task after an entry
abbrev pub after_entry : Program → Task → LogEntry → Task
after_entry p t e = record {
  state = or_lost (answered p t.state e.answer);
  made = made_after e.answer t.made;
  forked = forks_after e.answer t.forked;
  clock = e.stamp;
}

-- a new channel has the next name of the task; the stamp of an event of one task is its clock and 1, that of an exchange is greater than its clock
abbrev pub IsAnswered : Path → Task → ℕ → Request → Answer → Type 0
IsAnswered path t stamp Step Go = stamp ≡ suc t.clock
IsAnswered path t stamp (New k) (Made h) = (stamp ≡ suc t.clock) × (h ≡ channel_name path t.made)
IsAnswered path t stamp Fork Forked = stamp ≡ suc t.clock
IsAnswered path t stamp (Put x ev) Sent = t.clock < stamp
IsAnswered path t stamp (Get x) (Got ev) = t.clock < stamp
IsAnswered path t stamp q a = ⊥

-- the entry is one of the task: it asks for what the task asks for next, and the answer leads to a state
pub record Enters (p : Program) (path : Path) (t : Task) (e : LogEntry) : Type 0 where
  pub asked : request p.families t.state ≡ Some e.asked
  pub is_answered : IsAnswered path t e.stamp e.asked e.answer
  pub state : State
  pub leads : answered p t.state e.answer ≡ Some state

-- what the task exchanges at an entry
abbrev pub exchanged_by : ℕ → ℕ → Request → Answer → List Exchange
exchanged_by clock stamp (Put x ev) Sent =
    record { end = x; sends = true; event = ev; stamp = stamp; clock = clock } ∷ []
exchanged_by clock stamp (Get x) (Got ev) =
    record { end = x; sends = false; event = ev; stamp = stamp; clock = clock } ∷ []
exchanged_by clock stamp q a = []

-- the channel that a number of a type and a name are
abbrev pub opening_of : ChannelName → Option Tree → List Opening
opening_of h None = []
opening_of h (Some t) = record { name = h; declared = t } ∷ []

-- the channel that it makes there
abbrev pub opened_by : List Tree → Request → Answer → List Opening
opened_by types (New k) (Made h) = opening_of h (slice_get types k)
opened_by types q a = []

-- the task that begins in a state
abbrev pub birth_of : Path → ℕ → Option State → List Birth
birth_of path clock None = []
birth_of path clock (Some s) = record { path = path; first = new_task s clock } ∷ []

-- the task that it forks there
abbrev pub born_by : Program → Path → Task → ℕ → Answer → List Birth
born_by p path t stamp Go = []
born_by p path t stamp (Made h) = []
born_by p path t stamp Forked = birth_of (child_path path t.forked) stamp
    (child (pause p.families t.state))
born_by p path t stamp Sent = []
born_by p path t stamp (Got ev) = []

-- ---- a log, from a task on

-- the log leads from one task to the other
abbrev pub Follows : Program → Path → Task → List LogEntry → Task → Type 0
Follows p path t [] u = u ≡ t
Follows p path t (e ∷ es) u = Enters p path t e × Follows p path (after_entry p t e) es u

-- what it exchanges, from a clock on
abbrev pub exchanges : ℕ → List LogEntry → List Exchange
exchanges clock [] = []
exchanges clock (e ∷ es) = exchanged_by clock e.stamp e.asked e.answer ++ exchanges e.stamp es

-- the channels that it makes
abbrev pub openings : List Tree → List LogEntry → List Opening
openings types [] = []
openings types (e ∷ es) = opened_by types e.asked e.answer ++ openings types es

-- the tasks that it forks
abbrev pub births : Program → Path → Task → List LogEntry → List Birth
births p path t [] = []
births p path t (e ∷ es) = born_by p path t e.stamp e.answer ++ births p path (after_entry p t e) es

-- ---- a history

-- one side's part in an entry, whether it sends there
abbrev pub part_in : EndName → Bool → Entry → Exchange
part_in x true e = record {
  end = x;
  sends = true;
  event = e.event;
  stamp = e.stamp;
  clock =
      e.sent;
}
part_in x false e = record {
  end = x;
  sends = false;
  event = e.event;
  stamp = e.stamp;
  clock =
      e.got;
}

-- the type after an event, if there was one
abbrev pub then_after : Option Tree → Event → Option Tree
then_after None ev = None
then_after (Some t) ev = after_event t ev

-- one side's part in a history, from its type on
abbrev pub parts_in : EndName → Option Tree → List Entry → List Exchange
parts_in x t [] = []
parts_in x t (e ∷ es) = part_in x (sends t e.event) e ∷ parts_in x (then_after t e.event) es
