use Rattle.std.proofs.Common.{◌≡◌, drop}
use Rattle.fst_norms.specs.Bounds.{best_bound, lesser}
use Rattle.fst_norms.proofs.bounds.best_bound.Given as goal

abbrev pub invariant-loop-rule : goal.invariant-loop-rule
invariant-loop-rule l = lesser l.best (best_bound l.bounds (drop l.rule-index l.rules)) ≡ best_bound l.bounds l.rules
