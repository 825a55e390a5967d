-- The events of a record, each once and in order.
use Rattle.std.specs.Prelude.{zero, List}
use Rattle.std.specs.Ordering.{nat_cmp, ordering_then}
use Rattle.std.specs.Cmp.Lexicographic.{slice_cmp}
use Rattle.std.specs.declared.cmp.Ordering.{Ordering}
use Rattle.fst_types.specs.Tree.{Tree}
use Rattle.fst_types.specs.declared.event.ChannelHistory.{ChannelHistory}
use Rattle.fst_terms.specs.CoreTree.{CoreTree}
use Rattle.fst_machine.specs.Machine.{Program}
use Rattle.fst_runs.specs.declared.event.Stamped.{Stamped}
use Rattle.fst_runs.specs.Configs.{started}
use Rattle.fst_runs.specs.Order.{AreSorted, path_of}
use Rattle.fst_runs.specs.StampedRuns.{RunsAt}
use Rattle.fst_records.specs.Records.{Course, FitsRecord, config_of, log_of, main_birth}
use Rattle.fst_records.specs.Parts.{AreEvents}
use Rattle.fst_process.specs.declared.marks.TaskMarks.{TaskMarks}
use Rattle.fst_process.specs.Marks.{AreMarks, marks_from}

-- events compare by their stamps, and then by their paths
abbrev pub event_cmp : Stamped → Stamped → Ordering
event_cmp d e = ordering_then (nat_cmp d.stamp e.stamp)
    (slice_cmp nat_cmp (path_of d.event) (path_of e.event))

-- these are the marks of a record that fits
pub record AreOfRecord (ts : List TaskMarks) : Type 0 where
  pub program : Program
  pub types : List Tree
  pub main : CoreTree
  pub tasks : List Course
  pub channels : List ChannelHistory
  pub fits : FitsRecord program types (main_birth main) tasks channels
  pub marks : AreMarks ts (λ p. marks_from p zero (log_of tasks p))

-- the events are the record's, sorted, and they are a run with these stamps from main's beginning to its tasks and histories
pub record AreMerged (ts : List TaskMarks) (d : AreOfRecord ts) (es : List Stamped) : Type 0 where
  pub are : AreEvents d.tasks es
  pub sorted : AreSorted es
  pub run : RunsAt d.program d.types (started d.main) es (config_of d.tasks d.channels)
