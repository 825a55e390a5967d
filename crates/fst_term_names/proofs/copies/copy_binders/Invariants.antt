use Rattle.std.proofs.Common.{◌≡◌, take}
use Rattle.fst_term_names.proofs.copies.copy_binders.Given as goal

abbrev pub invariant-loop-binder : goal.invariant-loop-binder
invariant-loop-binder l = l.copies.items ≡ take l.binder-index l.binders
