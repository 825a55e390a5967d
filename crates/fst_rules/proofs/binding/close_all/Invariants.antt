use Rattle.std.proofs.Common.{◌≡◌, ◌+◌, ◌-◌, ◌≤◌, length, Some}
use Rattle.fst_rules.specs.Walks.{closed_all}
use Rattle.fst_rules.proofs.binding.close_all.Given as goal

abbrev pub invariant-loop-i : goal.invariant-loop-i
invariant-loop-i l = record {
  walk : closed_all l.i l.fn.context ≡ Some l.context;
  enough : l.n ≤ l.i + length l.context.variables;
  within : l.i ≤ l.n;
}

abbrev pub decreases-loop-i : goal.decreases-loop-i
decreases-loop-i l = l.n - l.i
