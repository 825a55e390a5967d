use Rattle.std.proofs.Common.{◌∙◌, ℕ, List, ap, drop, drop-drop}
use Rattle.fst_term_faults.proofs.binding.leave_all.Goals as goal

pub loop-done-preserved : goal.loop-done-preserved
loop-done-preserved c =
    c.leave.ensures ∙ ap (λ (xs : List (List ℕ)). drop 1 xs) c.loop-done.invariant
    ∙ drop-drop 1 c.loop-done._done c.args.locals.now
