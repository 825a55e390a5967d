use Rattle.std.proofs.Common.{◌≡◌, ◌<◌, ◌≤◌, ℕ, false, length, get_or}
use Rattle.std.specs.Prelude.{◌||◌}
use Rattle.fst_code.proofs.marks.mark_all.Given as goal

abbrev pub invariant-loop-i : goal.invariant-loop-i
invariant-loop-i l = record {
  deep : length l.later.items ≡ length l.fn.later.items;
  done : (k : ℕ) → k < l.i → get_or l.later.items k false ≡ (get_or l.others k false || get_or l.fn.later.items k false);
  rest : (k : ℕ) → l.i ≤ k → get_or l.later.items k false ≡ get_or l.fn.later.items k false;
}
