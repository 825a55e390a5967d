use Rattle.std.proofs.Common.{◌≡◌, ℕ, ◌<◌, false, nat_eq, length, get_or, take}
use Rattle.std.specs.List.{list_any}
use Rattle.fst_written.proofs.numbers.marks_of.Given as goal

abbrev pub invariant-loop-occurrence : goal.invariant-loop-occurrence
invariant-loop-occurrence l = record {
  long : length l.marks.items ≡ l.count;
  marked : (k : ℕ) → k < l.count → get_or l.marks.items k false ≡ list_any
      (λ o. nat_eq k o.number) (take l.occurrence-index l.standing);
}
