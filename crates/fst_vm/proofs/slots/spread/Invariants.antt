use Rattle.std.proofs.Common.{◌≡◌, ◌≤◌, length, take, drop}
use Rattle.std.specs.Vec.{vec_capacity}
use Rattle.fst_machine.specs.Spots.{spread}
use Rattle.fst_vm.specs.Moves.{trees_of}
use Rattle.fst_vm.proofs.slots.spread.Given as goal

abbrev pub invariant-loop-part : goal.invariant-loop-part
invariant-loop-part l = record {
  few : length l.parts.items ≤ length l.variables;
  left : l.parts.items ≡ take (length l.parts.items) l.initial.parts.items;
  made : l.room.items ≡ spread (drop (length l.parts.items) l.variables)
      (trees_of (drop (length l.parts.items) l.initial.parts.items));
  capacity : vec_capacity l.room ≡ vec_capacity l.fn.room;
}

abbrev pub decreases-loop-part : goal.decreases-loop-part
decreases-loop-part l = length l.parts.items
