use Rattle.std.proofs.Common.{◌≡◌, drop}
use Rattle.fst_term_faults.proofs.binding.leave_all.Given as goal

abbrev pub invariant-loop-done : goal.invariant-loop-done
invariant-loop-done l = l.locals ≡ drop l._done l.fn.locals
