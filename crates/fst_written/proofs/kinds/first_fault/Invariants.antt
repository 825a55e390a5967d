use Rattle.std.proofs.Common.{map, take}
use Rattle.fst_written.specs.Faults.{IsLeast}
use Rattle.fst_written.specs.Readings.{reading_of}
use Rattle.fst_written.proofs.kinds.first_fault.Given as goal

abbrev pub invariant-loop-occurrence : goal.invariant-loop-occurrence
invariant-loop-occurrence l = IsLeast l.m (map reading_of (take l.occurrence-index l.standing)) l.found
