use Rattle.std.proofs.Common.{◌≡◌, drop, length}
use Rattle.fst_machine.specs.Code.{also}
use Rattle.fst_code.specs.Arms.{marks_of}
use Rattle.fst_code.specs.Marks.{marked}
use Rattle.fst_code.proofs.arms.mark_arms.Given as goal

abbrev pub invariant-loop-i : goal.invariant-loop-i
invariant-loop-i l = record {
  marks : marked l.later.items ≡ also (marks_of (drop l.i l.codes)) (marked l.fn.later.items);
  deep : length l.later.items ≡ length l.fn.later.items;
}
