use Rattle.std.proofs.Common.{◌≤◌, ◌+◌, drop, length, take}
use Rattle.fst_terms.specs.CoreCount.{globals_count}
use Rattle.fst_code.specs.Globals.{AllStart}
use Rattle.fst_code.specs.Written.{Extends, compiled}
use Rattle.fst_code.proofs.globals.write_globals.Given as goal

abbrev pub invariant-loop-global : goal.invariant-loop-global
invariant-loop-global l = record {
  more : Extends (compiled l.given.families.now l.fn.out) (compiled l.given.families.now l.out);
  entries : length l.out.lambdas.items + l.global-index + globals_count (drop l.global-index l.globals)
      ≤ length l.fn.out.lambdas.items + globals_count l.globals;
  starts : AllStart (compiled l.given.families.now l.out) (take l.global-index l.globals) l.starts.items;
}
