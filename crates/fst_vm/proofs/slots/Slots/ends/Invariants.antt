use Rattle.std.proofs.Common.{◌≡◌, ◌++◌, drop}
use Rattle.fst_vm.specs.Moves.{ends_in_slots}
use Rattle.fst_vm.proofs.slots.Slots.ends.Given as goal

abbrev pub invariant-loop-i : goal.invariant-loop-i
invariant-loop-i l = l.ends.items ++ ends_in_slots (drop l.i l.self) ≡ ends_in_slots l.self
