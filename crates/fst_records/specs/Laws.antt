-- What the laws say.
use Rattle.std.specs.Prelude.{◌≡◌, ℕ, suc, ◌+◌, ◌^◌, ◌<◌, ◌≤◌, List, ◌∷◌, ◌++◌, length, sum_by}
use Rattle.fst_types.specs.Tree.{Tree}
use Rattle.fst_types.specs.declared.event.ChannelHistory.{ChannelHistory}
use Rattle.fst_terms.specs.CoreTree.{CoreTree}
use Rattle.fst_machine.specs.Machine.{Program}
use Rattle.fst_runs.specs.declared.event.CoreEvent.{CoreEvent}
use Rattle.fst_runs.specs.declared.event.Stamped.{Stamped}
use Rattle.fst_runs.specs.Configs.{Config, started}
use Rattle.fst_runs.specs.Events.{Write, Does, written}
use Rattle.fst_runs.specs.Logs.{Birth}
use Rattle.fst_runs.specs.Notes.{Note, RunsNoting, entries_at, notes}
use Rattle.fst_runs.specs.Order.{AreTimed, path_of}
use Rattle.fst_runs.specs.StampedRuns.{RunsAt}
use Rattle.fst_runs.specs.Wrong.{IsRight}
use Rattle.fst_records.specs.Records.{Course, FitsRecord, config_of, log_of, main_birth}
use Rattle.fst_records.specs.Entries.{Correspond}
use Rattle.fst_records.specs.Growing.{events_of, AreWithin, IsFine, IsRecordOf, StaysFine}
use Rattle.fst_records.specs.Parts.{Part, parts_by, AreEvents}
use Rattle.fst_records.specs.Gathering.{gathered}

-- ---- what holds in a record

-- so it is of each record that fits, whose main begins so
abbrev pub OfRecords : ((m : Program) (types : List Tree) (main : Birth) (ys : List Course)
    (ks : List ChannelHistory) → Type 0) → Type 0
OfRecords P = (m : Program) (types : List Tree) (main : Birth) (ys : List Course)
    (ks : List ChannelHistory) → FitsRecord m types main ys ks → P m types main ys ks

-- tasks and channels differ by their paths and names, and logs and histories say the same of what passed over each channel
abbrev pub EntryLaw : Type 0
EntryLaw = OfRecords (λ m types main ys ks. Correspond ys ks)

-- nothing is over the number of its events
abbrev pub StampLaw : Type 0
StampLaw = OfRecords (λ m types main ys ks. main.first.clock ≡ 0 →
    AreWithin (events_of ys ks) ys ks)

-- ---- how a record grows

-- where an event is possible in the configuration of a record that fits, what it leads to is that of one with one event more, whose logs
-- have gained what the event gives them
abbrev pub ExtendsLaw : Type 0
ExtendsLaw = OfRecords (λ m types main ys ks. (e : CoreEvent) (w : Write) →
    main.first.clock ≡ 0 → events_of ys ks < 2 ^ 32 → IsRight m (config_of ys ks) →
    (does : Does m types (config_of ys ks) e w) → IsFine m (written (config_of ys ks) w) →
    IsRecordOf m types main (written (config_of ys ks) w) (suc (events_of ys ks))
    (λ p. log_of ys p ++ entries_at p (notes m types (config_of ys ks) e w does)))

-- so it is along a run
abbrev pub RunsLaw : Type 0
RunsLaw = OfRecords (λ m types main ys ks. (es : List CoreEvent) (d : Config) (ns : List Note) →
    main.first.clock ≡ 0 → events_of ys ks + length es ≤ 2 ^ 32 →
    StaysFine m types (config_of ys ks) → RunsNoting m types (config_of ys ks) es d ns →
    IsRecordOf m types main d (events_of ys ks + length es)
    (λ p. log_of ys p ++ entries_at p ns))

-- ---- a record as a run

-- its events, in an order in which their stamps don't fall, are a run with these stamps from main's beginning to the record's tasks and
-- histories
abbrev pub RunLaw : Type 0
RunLaw = (m : Program) (types : List Tree) (e : CoreTree) (ys : List Course)
    (ks : List ChannelHistory) (es : List Stamped) →
    FitsRecord m types (main_birth e) ys ks → AreEvents ys es → AreTimed es →
    RunsAt m types (started e) es (config_of ys ks)

-- the events of the record whose tasks are these, in such an order
pub record HasEvents (ys : List Course) : Type 0 where
  pub list : List Stamped
  pub are : AreEvents ys list
  pub timed : AreTimed list

-- each record that fits has them
abbrev pub EventsLaw : Type 0
EventsLaw = (m : Program) (types : List Tree) (e : CoreTree) (ys : List Course)
    (ks : List ChannelHistory) → FitsRecord m types (main_birth e) ys ks → HasEvents ys

-- they are as many as the record has
abbrev pub CountLaw : Type 0
CountLaw = OfRecords (λ m types main ys ks. (es : List Stamped) → AreEvents ys es →
    length es ≡ events_of ys ks)

-- no two of them have one stamp and one path
abbrev pub ApartLaw : Type 0
ApartLaw = OfRecords (λ m types main ys ks. (es : List Stamped) → AreEvents ys es →
    (front : List Stamped) (d : Stamped) (between : List Stamped) (e : Stamped)
    (back : List Stamped) → es ≡ front ++ d ∷ (between ++ e ∷ back) →
    d.stamp ≡ e.stamp → path_of d.event ≡ path_of e.event → ⊥)

-- where these are all parts of its logs, the events that they begin are the record's
abbrev pub GatherLaw : Type 0
GatherLaw = (m : Program) (types : List Tree) (e : CoreTree) (ys : List Course)
    (ks : List ChannelHistory) → FitsRecord m types (main_birth e) ys ks →
    (all : List Part) → ((w : Part → ℕ) → sum_by w all ≡ sum_by (parts_by w) ys) →
    AreEvents ys (gathered all all)
