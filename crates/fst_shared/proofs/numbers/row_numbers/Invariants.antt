use Rattle.std.proofs.Common.{◌≡◌, length}
use Rattle.fst_shared.specs.Shared.{Keeps}
use Rattle.fst_shared.specs.Numbers.{AreNumbers}
use Rattle.fst_shared.proofs.numbers.row_numbers.Given as goal

abbrev pub invariant-loop-rule : goal.invariant-loop-rule
invariant-loop-rule l = record {
  kept : Keeps l.initial.words l.words;
  numbers : AreNumbers l.words l.rules l.numbers.items;
  count : length l.numbers.items ≡ l.rule-index;
}
