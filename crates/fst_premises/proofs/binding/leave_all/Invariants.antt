use Rattle.std.proofs.Common.{◌≡◌}
use Rattle.fst_premises.specs.Scopes.{left_all}
use Rattle.fst_premises.proofs.Leaving.{IsLastThere}
use Rattle.fst_premises.proofs.binding.leave_all.Given as goal

abbrev pub invariant-loop-k : goal.invariant-loop-k
invariant-loop-k l = record {
  left : l.context ≡ left_all l.k l.fn.context;
  last : IsLastThere l.k l.fn.context l.unused;
}
