use Rattle.std.proofs.Common.{◌↔◌, drop, map}
use Rattle.fst_derivations.specs.Deriv.{deriv_of}
use Rattle.fst_derivations.specs.Modules.{AreDerived}
use Rattle.fst_derivations.specs.Parts.{IsAnyConversion}
use Rattle.fst_rules.proofs.holding.holds.Given as goal

abbrev pub invariant-loop-i : goal.invariant-loop-i
invariant-loop-i l =
    AreDerived l.m IsAnyConversion (drop l.i l.m.globals.items)
    (map deriv_of (drop l.i l.d)) ↔ AreDerived l.m IsAnyConversion l.m.globals.items (map deriv_of l.d)
