use Rattle.std.proofs.Common.{List}
use Rattle.fst_types.specs.declared.family.Family.{Family}
use Rattle.fst_machine.specs.Standing.{measure}
use Rattle.fst_vm.specs.Running.{ComesTo, code_of}
use Rattle.fst_vm.proofs.running.Running.run_on.Given as goal

abbrev pub invariant-loop : goal.invariant-loop
invariant-loop l = (fs : List Family) → ComesTo (code_of fs l.code) l.initial.self l.self

abbrev pub decreases-loop : goal.decreases-loop
decreases-loop l = measure l.self
