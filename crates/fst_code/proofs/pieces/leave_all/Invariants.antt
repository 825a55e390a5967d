use Rattle.std.proofs.Common.{◌≡◌, ◌+◌, List, length}
use Rattle.fst_types.specs.declared.family.Family.{Family}
use Rattle.fst_code.specs.Marks.{marked}
use Rattle.fst_code.specs.Written.{compiled}
use Rattle.fst_code.proofs.UnderLaws.{Left}
use Rattle.fst_code.proofs.pieces.leave_all.Given as goal

abbrev pub invariant-loop-i : goal.invariant-loop-i
invariant-loop-i l = record {
  left : (fs : List Family) → Left (compiled fs l.fn.out) (compiled fs l.out) (marked l.fn.later.items) l.later.items l._i;
  deep : length l.fn.later.items ≡ l._i + length l.later.items;
}
