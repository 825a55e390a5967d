-- The merged events of a record.
use Rattle.std.proofs.Common.{◌≡◌, ◌∙◌, ℕ, ◌≤◌, List, subst, arith}
use Rattle.std.specs.Prelude.{IsPermutation, sum_by}
use Rattle.std.specs.List.Sorted.{IsSorted}
use Rattle.std.proofs.lemmas.List.Sorted.{sum_by-IsPermutation}
use Rattle.fst_types.specs.declared.ends.ChannelName.{ChannelName}
use Rattle.fst_runs.specs.declared.event.Stamped.{Stamped}
use Rattle.fst_runs.specs.Order.{AreSorted}
use Rattle.fst_runs.proofs.Laws.{sorted_timed}
use Rattle.fst_records.specs.Gathering.{gathered}
use Rattle.fst_records.specs.Parts.{AreEvents, parts_of}
use Rattle.fst_records.specs.Records.{main_birth}
use Rattle.fst_records.proofs.Laws.{events_apart, count, gathers, got_once, sorted_run}
use Rattle.fst_process.specs.declared.marks.TaskMarks.{TaskMarks}
use Rattle.fst_merge.specs.declared.receipts.Receipt.{Receipt}
use Rattle.fst_merge.specs.Getters.{AreReceipts, ForParts}
use Rattle.fst_merge.specs.Merging.{AreMerged, AreOfRecord, event_cmp}
use Rattle.fst_merge.specs.Receipts.{parts_in}
use Rattle.fst_merge.proofs.FoundReceipts.{are_found}
use Rattle.fst_merge.proofs.MarkSums.{marks_sum}
use Rattle.fst_merge.proofs.SortedEvents.{sorted_apart}

module _ (ts : List TaskMarks) (d : AreOfRecord ts) where
  -- at most one task got something over a channel at a stamp
  one_getter : (h : ChannelName) (n : ℕ) → sum_by (count h n) (parts_in ts) ≤ 1
  one_getter h n =
      let a = marks_sum ts d (count h n) in
      let b = got_once h n d.program d.types (main_birth d.main) d.tasks d.channels d.fits in
      omega (arith, a, b)

  -- the events that all parts begin are the record's, in whichever order they stand
  are_events : (es : List Stamped) → IsPermutation (gathered (parts_in ts) (parts_in ts)) es → AreEvents d.tasks es
  are_events es same w =
      sum_by-IsPermutation (λ (e : Stamped). sum_by w (parts_of e.event e.stamp)) (gathered (parts_in ts) (parts_in ts)) es same
      ∙ gathers d.program d.types d.main d.tasks d.channels d.fits (parts_in ts) (marks_sum ts d) w

  -- sorted, they are merged
  pub merged : (rs : List Receipt) (fs es : List Stamped) → AreReceipts (parts_in ts) rs →
      ForParts rs (λ all. fs ≡ gathered all (parts_in ts)) → IsPermutation fs es → IsSorted event_cmp es → AreMerged ts d es
  merged rs fs es receipts found same up = record {
    are = are;
    sorted = sorted;
    run = sorted_run d.program d.types d.main d.tasks d.channels es d.fits are (sorted_timed es sorted);
  }
    where
      are : AreEvents d.tasks es
      are = are_events es (subst (λ gs. IsPermutation gs es)
          (found (parts_in ts) (are_found (parts_in ts) rs receipts one_getter)) same)

      sorted : AreSorted es
      sorted = sorted_apart es up (events_apart d.program d.types (main_birth d.main) d.tasks d.channels d.fits es are)
