-- No two threads of a run have one path, no two channels and no two ends one name.
use Rattle.std.proofs.Common.{◌≤◌, List, arith}
use Rattle.std.specs.Prelude.{sum_by}
use Rattle.std.proofs.lemmas.List.Elements.{All-weaker}
use Rattle.fst_types.specs.Tree.{Tree}
use Rattle.fst_derivations.specs.Rules.{Surroundings}
use Rattle.fst_types.specs.declared.ends.ChannelName.{ChannelName}
use Rattle.fst_types.specs.declared.ends.EndName.{EndName}
use Rattle.fst_runs.specs.Configs.{same_channel, same_end}
use Rattle.fst_runs.specs.Wrong.{once}
use Rattle.fst_cell.specs.End.{EndView, end_name}
use Rattle.fst_safety.specs.WellTyped.{program_in}
use Rattle.fst_runs.specs.Logs.{Birth}
use Rattle.fst_safety.specs.Threads.{Thread, FitsIn}
use Rattle.fst_safety.specs.Turns.{of_ends, by_type}
use Rattle.fst_worker.specs.Works.{IsRun, course_of, opens}
use Rattle.fst_worker.specs.Pairs.{AreApart}
use Rattle.fst_records.proofs.Laws.{IsLed, paths_once, names_once, sum_same}
use Rattle.fst_worker.proofs.Sides.{by_side}

module _ (m : Surroundings) (a : Tree) (main : Birth) (xs : List Thread) (run : IsRun m a main xs) where
  -- no two channels of a run have one name
  pub channels_once : (h : ChannelName) → sum_by (opens m (λ n t. once (same_channel h n))) xs ≤ 1
  channels_once h = names_once course_of (program_in m) main xs run.root run.whole.births m.types
      (All-weaker (FitsIn m a) (λ (x : Thread). IsLed (program_in m) (course_of x)) (λ t f. f.follows) xs run.fit) h

  -- no two ends have one name
  pub ends_once : (z : EndName) → sum_by (of_ends (λ e. once (same_end z (end_name e)))) xs ≤ 1
  ends_once z =
      let w = λ (n : ChannelName) (t : Tree). once (same_channel z.channel n) in
      let same = λ (e : EndView). by_side (same_channel z.channel e.channel) z.side e.knows.side in
      let s = sum_same (of_ends (by_type z.side w)) (of_ends (λ e. once (same_end z (end_name e))))
      (λ x.
      let b = sum_same (by_type z.side w) (λ e. once (same_end z (end_name e))) same x.bag in
      let c = sum_same (by_type z.side w) (λ e. once (same_end z (end_name e))) same x.retired in
      omega (arith, b, c)) xs in
      let t = run.whole.typed z.side w in
      let c = channels_once z.channel in
      omega (arith, s, t, c)

  -- all of this
  pub apart : AreApart m xs
  apart = record {
    paths = paths_once course_of (program_in m) main xs run.root run.whole.births;
    channels = channels_once;
    ends = ends_once;
  }
