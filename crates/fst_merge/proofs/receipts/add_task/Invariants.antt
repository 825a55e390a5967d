use Rattle.std.proofs.Common.{take}
use Rattle.std.specs.Prelude.{map}
use Rattle.fst_merge.specs.Getters.{GainReceipts}
use Rattle.fst_merge.specs.Receipts.{part_of}
use Rattle.fst_merge.proofs.receipts.add_task.Given as goal

abbrev pub invariant-loop-mark : goal.invariant-loop-mark
invariant-loop-mark l = GainReceipts (map (part_of l.task.path) (take l.mark-index l.mark-items)) l.initial.found.items
    l.found.items
