use Rattle.std.proofs.Common.{◌≡◌, ◌≤◌, ◌-◌, None, length, replicate}
use Rattle.fst_scopes.proofs.aliases.no_measures.Given as goal

abbrev pub invariant-loop-measures : goal.invariant-loop-measures
invariant-loop-measures l = record {
  few : length l.measures.items ≤ l.n;
  none : l.measures.items ≡ replicate (length l.measures.items) None;
}

abbrev pub decreases-loop-measures : goal.decreases-loop-measures
decreases-loop-measures l = l.n - length l.measures.items
