use Rattle.std.proofs.Common.{◌≡◌, ◌<◌, ℕ, Bool, get_or}
use Rattle.fst_context.proofs.marks.first_difference.Given as goal

abbrev pub invariant-loop-i : goal.invariant-loop-i
invariant-loop-i l = (k : ℕ) (b c : Bool) → k < l.i → get_or l.marks k b ≡ get_or l.others k c
