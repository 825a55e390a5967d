use Rattle.std.proofs.Common.{◌≡◌, length}
use Rattle.fst_paths.specs.Paths.{main_path}
use Rattle.fst_vm.specs.SlotOf.{ended_in}
use Rattle.fst_vm.proofs.tasks.ended_result.Given as goal

abbrev pub invariant-loop-last : goal.invariant-loop-last
invariant-loop-last l = ended_in l.ended.items main_path ≡ ended_in l.fn.ended.items main_path

abbrev pub decreases-loop-last : goal.decreases-loop-last
decreases-loop-last l = length l.ended.items
