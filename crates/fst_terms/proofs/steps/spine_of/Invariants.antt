use Rattle.std.proofs.Common.{◌≡◌, ◌≤◌}
use Rattle.fst_terms.specs.CoreTree.{core_height}
use Rattle.fst_terms.specs.Around.{around}
use Rattle.fst_terms.proofs.steps.spine_of.Given as goal

abbrev pub invariant-loop-head : goal.invariant-loop-head
invariant-loop-head l = record { whole : around l.head l.steps.items ≡ l.term; low : core_height l.head ≤ core_height l.term }
