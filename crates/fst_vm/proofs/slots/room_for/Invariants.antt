use Rattle.std.proofs.Common.{ℕ, ◌<◌, ◌≤◌, get_or}
use Rattle.fst_vm.proofs.slots.room_for.Given as goal

abbrev pub invariant-loop-variable : goal.invariant-loop-variable
invariant-loop-variable l = record {
  room : (k : ℕ) → k < l.variable-index → get_or l.variables k 0 < l.places;
  few : l.places ≤ 4294967296;
}
