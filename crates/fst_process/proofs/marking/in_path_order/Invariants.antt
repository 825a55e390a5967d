use Rattle.std.proofs.Common.{◌≡◌, ◌++◌}
use Rattle.fst_process.specs.Marking.{tasks_of}
use Rattle.fst_process.proofs.marking.in_path_order.Given as goal

abbrev pub invariant-loop-key : goal.invariant-loop-key
invariant-loop-key l = l.tasks.items ++ tasks_of l.key-iterator ≡ tasks_of l.fn.all.entries
