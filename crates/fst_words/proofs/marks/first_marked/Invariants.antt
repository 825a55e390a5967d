use Rattle.std.proofs.Common.{◌≡◌, ◌<◌, ℕ, false}
use Rattle.std.specs.Prelude.{slice_index_or}
use Rattle.fst_words.specs.Marks.{is_marked}
use Rattle.fst_words.proofs.marks.first_marked.Given as goal

abbrev pub invariant-loop-i : goal.invariant-loop-i
invariant-loop-i l = (k : ℕ) → k < l.i → is_marked l.marks (slice_index_or l.word k 0) ≡ false
