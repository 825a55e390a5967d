use Rattle.std.proofs.Common.{◌≡◌, ◌+◌, ◌-◌, length}
use Rattle.std.specs.Vec.{vec_capacity}
use Rattle.fst_machine.specs.Spots.{filled}
use Rattle.fst_vm.proofs.slots.fill.Given as goal

abbrev pub invariant-loop-values : goal.invariant-loop-values
invariant-loop-values l = record {
  same : filled l.k l.fn.value l.values.items ≡ filled l.k l.fn.value l.initial.values.items;
  capacity : vec_capacity l.values ≡ vec_capacity l.fn.values;
}

abbrev pub decreases-loop-values : goal.decreases-loop-values
decreases-loop-values l = l.k + 1 - length l.values.items
