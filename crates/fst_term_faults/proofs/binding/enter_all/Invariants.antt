use Rattle.std.proofs.Common.{◌≡◌, drop}
use Rattle.fst_term_faults.specs.TermFaults.{within}
use Rattle.fst_term_faults.proofs.binding.enter_all.Given as goal

abbrev pub invariant-loop-binder : goal.invariant-loop-binder
invariant-loop-binder l = within (drop l.binder-index l.binders) l.locals ≡ within l.binders l.fn.locals
