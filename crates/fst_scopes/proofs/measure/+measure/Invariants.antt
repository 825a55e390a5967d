use Rattle.std.proofs.Common.{◌≡◌, ◌+◌, ◌*◌, ◌≤◌, min, drop}
use Rattle.std.specs.Prelude.{option_map}
use Rattle.fst_types.specs.ModelWrittenHeight.{height, height_all}
use Rattle.fst_types.specs.ModelWrittenView.{written_branches}
use Rattle.fst_scopes.specs.Measures.{ceiling, measure_all}
use Rattle.fst_scopes.specs.Scopes.{counted, recs_of, types_of, vars_of}
use Rattle.fst_scopes.proofs.measure.+measure.Given as goal

abbrev pub decreases-measure_of : goal.decreases-measure_of
decreases-measure_of l = 2 * height l.w.now

abbrev pub decreases-measure_all_of : goal.decreases-measure_all_of
decreases-measure_all_of l = 2 * height_all (written_branches l.branches.now) + 1

abbrev pub invariant-measure_all_of-loop-branch : goal.invariant-measure_all_of-loop-branch
invariant-measure_all_of-loop-branch l = record {
  fits : l.total ≤ ceiling;
  sum : option_map (λ n. min (l.total + n) ceiling)
      (measure_all (recs_of l.names) (counted (vars_of l.names) (types_of l.names) l.measures)
      (written_branches (drop l.branch-index l.branches)))
      ≡ measure_all (recs_of l.names) (counted (vars_of l.names) (types_of l.names) l.measures) (written_branches l.branches);
}
