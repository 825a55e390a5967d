use Rattle.std.proofs.Common.{◌≡◌, ◌++◌}
use Rattle.fst_vm.specs.SlotOf.{waiting_in}
use Rattle.fst_vm.proofs.tasks.Tasks.waiting.Given as goal

abbrev pub invariant-loop-key : goal.invariant-loop-key
invariant-loop-key l = l.all.items ++ waiting_in l.key-iterator ≡ waiting_in l.self.live.entries
