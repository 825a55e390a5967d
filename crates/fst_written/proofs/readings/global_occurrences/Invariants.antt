use Rattle.std.proofs.Common.{◌≡◌, ◌++◌, map, drop}
use Rattle.fst_written.specs.Readings.{reading_of, global_readings}
use Rattle.fst_written.proofs.readings.global_occurrences.Given as goal

abbrev pub invariant-loop-global : goal.invariant-loop-global
invariant-loop-global l = map reading_of l.out.items ++ global_readings
    (drop l.global-index l.globals) ≡ global_readings l.globals
