use Rattle.std.proofs.Common.{◌≡◌, length}
use Rattle.fst_machine.specs.Code.{no_variables}
use Rattle.fst_code.specs.Marks.{marked}
use Rattle.fst_code.proofs.marks.unmarked.Given as goal

abbrev pub invariant-loop-i : goal.invariant-loop-i
invariant-loop-i l = record { marks : marked l.marks.items ≡ no_variables; deep : length l.marks.items ≡ l._i }
