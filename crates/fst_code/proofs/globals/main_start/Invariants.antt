use Rattle.std.proofs.Common.{◌≡◌, drop}
use Rattle.fst_machine.specs.Programs.{main_place}
use Rattle.fst_code.proofs.globals.main_start.Given as goal

abbrev pub invariant-loop-i : goal.invariant-loop-i
invariant-loop-i l = main_place (drop l.i l.globals) (drop l.i l.starts) ≡ main_place l.globals l.starts
