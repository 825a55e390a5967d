use Rattle.std.proofs.Common.{map, take}
use Rattle.fst_derivations.specs.Deriv.{deriv_of}
use Rattle.fst_typing.specs.Checked.{IsFoundOf}
use Rattle.fst_typing.proofs.globals.check_globals.Given as goal

abbrev pub invariant-loop-global : goal.invariant-loop-global
invariant-loop-global l = IsFoundOf l.m l.budget (take l.global-index l.m.globals.items)
    (map deriv_of l.found.derivations.items) l.found.refused
