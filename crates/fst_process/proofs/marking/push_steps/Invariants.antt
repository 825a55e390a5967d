use Rattle.std.proofs.Common.{◌≡◌, ◌++◌}
use Rattle.fst_process.specs.Marking.{step_marks}
use Rattle.fst_process.proofs.marking.push_steps.Given as goal

abbrev pub invariant-loop-i : goal.invariant-loop-i
invariant-loop-i l = l.marks.items ≡ l.fn.marks.items ++ step_marks l.clock l.i
