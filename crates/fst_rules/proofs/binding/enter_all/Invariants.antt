use Rattle.std.proofs.Common.{◌≡◌, drop}
use Rattle.fst_rules.specs.Walks.{entered_all}
use Rattle.fst_rules.proofs.binding.enter_all.Given as goal

abbrev pub invariant-loop-i : goal.invariant-loop-i
invariant-loop-i l = entered_all l.place.vars.now (drop l.i l.binders)
    (drop l.i l.types) l.context ≡ entered_all l.place.vars.now l.binders l.types l.fn.context
