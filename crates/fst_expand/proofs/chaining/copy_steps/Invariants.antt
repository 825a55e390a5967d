use Rattle.std.proofs.Common.{◌≡◌, take}
use Rattle.fst_expand.proofs.chaining.copy_steps.Given as goal

abbrev pub invariant-loop-rewrite : goal.invariant-loop-rewrite
invariant-loop-rewrite l = l.copy.items ≡ take l.rewrite-index l.steps
