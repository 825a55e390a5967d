use Rattle.std.proofs.Common.{◌≡◌, ◌<◌, ℕ, length, All}
use Rattle.fst_words.specs.Words.{WordBelow, row_of}
use Rattle.fst_norms.specs.Bounds.{bound_at}
use Rattle.fst_norms.specs.Lowering.{lowered_to, lowering}
use Rattle.fst_norms.proofs.lowering.lowering_words.Given as goal

abbrev pub invariant-loop-n : goal.invariant-loop-n
invariant-loop-n l = record {
  count : length l.words.items ≡ l.n;
  each : (k : ℕ) → k < l.n → lowered_to l.words.items k ≡ lowering l.norms (row_of l.g.rules.items k) (bound_at l.norms k);
  range : All (WordBelow (length l.g.rules.items)) l.words.items;
}
