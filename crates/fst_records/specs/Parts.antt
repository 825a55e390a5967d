-- What tasks do in events, and the events of a record.
use Rattle.std.specs.Prelude.{◌≡◌, ℕ, List, [], ◌∷◌, sum_by}
use Rattle.fst_types.specs.declared.ends.ChannelName.{ChannelName}
use Rattle.fst_machine.specs.declared.request.Request.{Request}
use Rattle.fst_machine.specs.declared.request.Request.TheVariants as request
use Rattle.fst_machine.specs.declared.request.Answer.{Answer}
use Rattle.fst_machine.specs.declared.request.Answer.TheVariants as answer
use Rattle.fst_runs.specs.declared.event.CoreEvent.{CoreEvent}
use Rattle.fst_runs.specs.declared.event.CoreEvent.TheVariants.{Local, New, Fork, Meet}
use Rattle.fst_runs.specs.declared.event.Stamped.{Stamped}
use Rattle.fst_runs.specs.declared.log.LogEntry.{LogEntry}
use Rattle.fst_runs.specs.Configs.{Path}
use Rattle.fst_records.specs.Records.{Course}

-- what a task does in an event
pub data Deed : Type 0 where
  stepped : Deed
  made : Deed
  forked : Deed
  -- over this channel
  sent : ChannelName → Deed
  got : ChannelName → Deed

-- the part of the task with this path in the event with this stamp
pub record Part : Type 0 where
  pub path : Path
  pub deed : Deed
  pub stamp : ℕ

-- the parts of the tasks in an event
abbrev pub parts_of : CoreEvent → ℕ → List Part
parts_of (Local p) n = record { path = p; deed = stepped; stamp = n } ∷ []
parts_of (New p) n = record { path = p; deed = made; stamp = n } ∷ []
parts_of (Fork p) n = record { path = p; deed = forked; stamp = n } ∷ []
parts_of (Meet p q h) n = record { path = p; deed = sent h; stamp = n } ∷
    record { path = q; deed = got h; stamp = n } ∷ []

-- what a task has done that asked for this and was told that
abbrev pub deeds : Request → Answer → List Deed
deeds request.Step answer.Go = stepped ∷ []
deeds (request.New n) (answer.Made h) = made ∷ []
deeds request.Fork answer.Forked = forked ∷ []
deeds (request.Put x ev) answer.Sent = sent x.channel ∷ []
deeds (request.Get x) (answer.Got ev) = got x.channel ∷ []
deeds q a = []

-- the parts of the task with this path that an entry of its log is, however they are weighed
abbrev pub part_by : (Part → ℕ) → Path → LogEntry → ℕ
part_by w p e = sum_by (λ (d : Deed). w (record { path = p; deed = d; stamp = e.stamp }))
    (deeds e.asked e.answer)

-- the parts of a task
abbrev pub parts_by : (Part → ℕ) → Course → ℕ
parts_by w y = sum_by (part_by w y.path) y.log

-- the parts of the tasks in these events
abbrev pub all_by : (Part → ℕ) → List Stamped → ℕ
all_by w es = sum_by (λ (e : Stamped). sum_by w (parts_of e.event e.stamp)) es

-- the events are those of the record whose tasks are these: each part in them is one that a log says, and each is there once
abbrev pub AreEvents : List Course → List Stamped → Type 0
AreEvents ys es = (w : Part → ℕ) → all_by w es ≡ sum_by (parts_by w) ys
