use Rattle.std.proofs.Common.{◌≡◌, ◌++◌, drop}
use Rattle.fst_code.specs.Arms.{table_of}
use Rattle.fst_code.proofs.arms.match_places.Given as goal

abbrev pub invariant-loop-i : goal.invariant-loop-i
invariant-loop-i l = l.places.items ++ table_of (drop l.i l.arms) (drop l.i l.starts) ≡ table_of l.arms l.starts
