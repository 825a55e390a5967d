use Rattle.std.specs.Prelude.{All}
use Rattle.fst_norms.specs.Pending.{IsPending}
use Rattle.fst_norms.proofs.estimate.pending_rules.Given as goal

abbrev pub invariant-loop-number : goal.invariant-loop-number
invariant-loop-number l = All (IsPending l.g.rules.items) l.pending.items
