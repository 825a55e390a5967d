use Rattle.std.proofs.Common.{◌≡◌, ◌++◌, drop}
use Rattle.fst_names.specs.Resolved.{kinds}
use Rattle.fst_names.proofs.question.kinds_of.Given as goal

abbrev pub invariant-loop-kind : goal.invariant-loop-kind
invariant-loop-kind l = l.kinds.items ++ kinds (drop l.kind-index l.binders) ≡ kinds l.binders
