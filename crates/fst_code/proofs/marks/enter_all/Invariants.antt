use Rattle.std.proofs.Common.{◌≡◌, ◌+◌, length, List}
use Rattle.fst_terms.specs.declared.binder.Binder.{Binder}
use Rattle.fst_machine.specs.Code.{within_all}
use Rattle.fst_code.specs.Marks.{marked}
use Rattle.fst_code.proofs.marks.enter_all.Given as goal

abbrev pub invariant-loop-i : goal.invariant-loop-i
invariant-loop-i l = record {
  marks : (xs : List Binder) → length xs ≡ l._i → marked l.later.items ≡ within_all xs (marked l.fn.later.items);
  deep : length l.later.items ≡ l._i + length l.fn.later.items;
}
