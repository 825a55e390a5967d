use Rattle.std.proofs.Common.{take}
use Rattle.fst_merge.specs.Getters.{AreReceipts}
use Rattle.fst_merge.specs.Receipts.{parts_in}
use Rattle.fst_merge.proofs.receipts.receipts.Given as goal

abbrev pub invariant-loop-task : goal.invariant-loop-task
invariant-loop-task l = AreReceipts (parts_in (take l.task-index l.tasks)) l.found.items
