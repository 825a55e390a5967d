-- What the logs of tasks gain where events happen.
use Rattle.std.specs.Prelude.{◌≡◌, suc, List, [], ◌∷◌, ◌++◌, if◌then◌else◌}
use Rattle.fst_types.specs.Tree.{Tree}
use Rattle.fst_machine.specs.Machine.{Program}
use Rattle.fst_machine.specs.declared.request.Request.TheVariants as request
use Rattle.fst_machine.specs.declared.request.Answer.TheVariants.{Go, Made, Forked, Sent, Got}
use Rattle.fst_runs.specs.declared.event.CoreEvent.{CoreEvent}
use Rattle.fst_runs.specs.declared.event.CoreEvent.TheVariants.{Local, New, Fork, Meet}
use Rattle.fst_runs.specs.declared.log.LogEntry.{LogEntry}
use Rattle.fst_runs.specs.Configs.{Path, Config, same_path, other, channel_name}
use Rattle.fst_runs.specs.Events.{Write, Does, written, meeting_stamp}

-- an entry that the log of the task with this path gains
pub record Note : Type 0 where
  pub path : Path
  pub entry : LogEntry

-- what the logs gain in an event that is possible
abbrev pub notes : (m : Program) (types : List Tree) (c : Config) (e : CoreEvent) (w : Write) →
    Does m types c e w → List Note
notes m types c (Local p) w d = record {
  path = p;
  entry = record { asked = request.Step; answer = Go; stamp = suc d.task.clock };
} ∷ []
notes m types c (New p) w d = record {
  path = p;
  entry = record {
    asked = request.New d.number;
    answer = Made (channel_name p d.task.made);
    stamp = suc d.task.clock;
  };
} ∷ []
notes m types c (Fork p) w d = record {
  path = p;
  entry = record { asked = request.Fork; answer = Forked; stamp = suc d.task.clock };
} ∷ []
notes m types c (Meet p q h) w d =
    let stamp = meeting_stamp d.sender d.receiver d.channel in
    record {
      path = p;
      entry = record { asked = request.Put d.end d.event; answer = Sent; stamp = stamp };
    } ∷ record {
      path = q;
      entry = record { asked = request.Get (other d.end); answer = Got d.event; stamp = stamp };
    } ∷ []

-- the events are possible one after the other, lead to the second configuration, and this is what the logs gain in them, in order
abbrev pub RunsNoting : Program → List Tree → Config → List CoreEvent → Config → List Note → Type 0
RunsNoting m types c [] d ns = (d ≡ c) × (ns ≡ [])
RunsNoting m types c (e ∷ es) d ns = (w : Write) × (does : Does m types c e w) ×
    (behind : List Note) × (ns ≡ notes m types c e w does ++ behind) ×
    RunsNoting m types (written c w) es d behind

-- the entries of one task among these
abbrev pub entries_at : Path → List Note → List LogEntry
entries_at p [] = []
entries_at p (n ∷ ns) = if same_path p n.path then n.entry ∷ entries_at p ns else entries_at p ns
