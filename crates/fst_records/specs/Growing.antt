-- What a record of a run becomes where an event of the machine happens, and how many events it has.
use Rattle.std.specs.Prelude.{◌≡◌, ℕ, ◌+◌, ◌≤◌, List, [], Some, All, length, sum_by}
use Rattle.fst_types.specs.Tree.{Tree}
use Rattle.fst_types.specs.declared.ends.ChannelName.{ChannelName}
use Rattle.fst_types.specs.declared.event.ChannelHistory.{ChannelHistory}
use Rattle.fst_kinds.specs.WellFormed.{IsSession}
use Rattle.fst_machine.specs.Machine.{Program}
use Rattle.fst_machine.specs.declared.request.Answer.{Answer}
use Rattle.fst_machine.specs.declared.request.Answer.TheVariants.{Go, Made, Forked, Sent, Got}
use Rattle.fst_runs.specs.declared.event.CoreEvent.{CoreEvent}
use Rattle.fst_runs.specs.declared.log.LogEntry.{LogEntry}
use Rattle.fst_runs.specs.Configs.{Path, Channel, Config, ChannelsWithin}
use Rattle.fst_runs.specs.Events.{Runs}
use Rattle.fst_runs.specs.Logs.{Birth}
use Rattle.fst_runs.specs.Wrong.{IsRight}
use Rattle.fst_records.specs.Records.{Course, FitsRecord, config_of, log_of}

-- ---- how many events a record has

-- 1 for an answer to what a task does alone
abbrev pub alone : Answer → ℕ
alone Go = 1
alone (Made h) = 1
alone Forked = 1
alone Sent = 0
alone (Got ev) = 0

-- the entries of the logs for what tasks do alone, and the entries of the histories
abbrev pub events_of : List Course → List ChannelHistory → ℕ
events_of ys ks =
    sum_by (λ (y : Course). sum_by (λ (e : LogEntry). alone e.answer) y.log) ys + sum_by
    (λ (k : ChannelHistory). length k.entries.items) ks

-- the task's clock, how many tasks it has forked and channels it has made, and the stamps of its log are not over n
pub record IsWithin (n : ℕ) (y : Course) : Type 0 where
  pub clock : y.now.clock ≤ n
  pub forked : y.now.forked ≤ n
  pub made : y.now.made ≤ n
  pub stamps : All (λ (e : LogEntry). e.stamp ≤ n) y.log

-- so it is with each of these, and no number of these channels and no stamp of what passed over them is over n
pub record AreWithin (n : ℕ) (ys : List Course) (ks : List ChannelHistory) : Type 0 where
  pub tasks : All (IsWithin n) ys
  pub channels : ChannelsWithin n ks

-- ---- events

-- nothing is wrong, and the declared type of each channel is a closed well-formed session type
pub record IsFine (m : Program) (c : Config) : Type 0 where
  pub right : IsRight m c
  pub sessions : (h : ChannelName) (k : Channel) → c.channels h ≡ Some k → IsSession [] k.declared

-- so it is after whatever run from it
abbrev pub StaysFine : Program → List Tree → Config → Type 0
StaysFine m types c = (es : List CoreEvent) (d : Config) → Runs m types c es d → IsFine m d

-- a record that fits, with this configuration, so many events, and these logs
pub record IsRecordOf (m : Program) (types : List Tree) (main : Birth) (c : Config) (n : ℕ)
    (logs : Path → List LogEntry) : Type 0 where
  pub tasks : List Course
  pub channels : List ChannelHistory
  pub fits : FitsRecord m types main tasks channels
  pub config : config_of tasks channels ≡ c
  pub events : events_of tasks channels ≡ n
  pub logged : (p : Path) → log_of tasks p ≡ logs p
