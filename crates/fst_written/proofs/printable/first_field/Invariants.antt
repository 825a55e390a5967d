use Rattle.std.proofs.Common.{take}
use Rattle.fst_written.specs.Printable.{IsLeastField}
use Rattle.fst_written.proofs.printable.first_field.Given as goal

abbrev pub invariant-loop-number : goal.invariant-loop-number
invariant-loop-number l = IsLeastField l.m (take l.number-index l.numbers) l.found
