use Rattle.std.proofs.Common.{◌≡◌, ◌++◌, map, drop}
use Rattle.fst_written.specs.Readings.{reading_of, closed_readings}
use Rattle.fst_written.proofs.readings.add_closed.Given as goal

abbrev pub invariant-loop-number : goal.invariant-loop-number
invariant-loop-number l =
    map reading_of l.out.items ++ closed_readings
    (drop l.number-index l.numbers) ≡ map reading_of l.fn.out.items ++ closed_readings l.numbers
