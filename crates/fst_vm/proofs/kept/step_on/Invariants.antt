use Rattle.std.proofs.Common.{◌-◌, ◌≤◌}
use Rattle.fst_vm.specs.Going.{StepsOn}
use Rattle.fst_vm.specs.SlotOf.{slot_of}
use Rattle.fst_vm.proofs.kept.step_on.Given as goal

abbrev pub invariant-loop-count : goal.invariant-loop-count
invariant-loop-count l = record {
  steps : StepsOn l.code l.count (slot_of l.fn.slot) (slot_of l.slot);
  most : l.count ≤ l.most;
}

abbrev pub decreases-loop-count : goal.decreases-loop-count
decreases-loop-count l = l.most - l.count
