use Rattle.std.proofs.Common.{◌≡◌, ◌++◌, map, drop}
use Rattle.fst_written.specs.Readings.{reading_of, standing_readings}
use Rattle.fst_written.proofs.readings.add_occurrences.Given as goal

abbrev pub invariant-loop-number : goal.invariant-loop-number
invariant-loop-number l =
    map reading_of l.out.items ++ standing_readings l.kinds
    (drop l.number-index l.standing) ≡ map reading_of l.fn.out.items ++ standing_readings l.kinds l.standing
