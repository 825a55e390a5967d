use Rattle.std.proofs.Common.{◌≡◌, List, ◌-◌}
use Rattle.fst_types.specs.declared.family.Family.{Family}
use Rattle.fst_machine.specs.Spots.{leads_back}
use Rattle.fst_vm.specs.Running.{code_of}
use Rattle.fst_vm.proofs.places.leads_back.Given as goal

abbrev pub invariant-loop : goal.invariant-loop
invariant-loop l = (fs : List Family) →
    leads_back (l.fn.place - l.counter) (code_of fs l.code) l.at ≡ leads_back l.fn.place (code_of fs l.code) l.fn.place
