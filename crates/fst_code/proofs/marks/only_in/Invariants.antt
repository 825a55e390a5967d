use Rattle.std.proofs.Common.{◌≡◌, ◌<◌, ℕ, false, length, get_or}
use Rattle.std.specs.Prelude.{◌&&◌, not}
use Rattle.fst_code.proofs.marks.only_in.Given as goal

abbrev pub invariant-loop-i : goal.invariant-loop-i
invariant-loop-i l = record {
  deep : length l.marks.items ≡ l.i;
  done : (k : ℕ) → k < l.i → get_or l.marks.items k false ≡ (get_or l.all k false && not (get_or l.some k false));
}
