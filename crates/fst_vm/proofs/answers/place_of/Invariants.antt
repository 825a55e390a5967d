use Rattle.std.proofs.Common.{◌≡◌, drop}
use Rattle.fst_machine.specs.Code.{place_of}
use Rattle.fst_vm.proofs.answers.place_of.Given as goal

abbrev pub invariant-loop-name : goal.invariant-loop-name
invariant-loop-name l = place_of (drop l.name-index l.places) l.label ≡ place_of l.places l.label
