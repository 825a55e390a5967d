use Rattle.std.proofs.Common.{◌≡◌, ◌++◌, take}
use Rattle.std.specs.Prelude.{map}
use Rattle.fst_records.specs.Gathering.{gathered}
use Rattle.fst_merge.specs.Getters.{ForParts}
use Rattle.fst_merge.specs.Receipts.{part_of}
use Rattle.fst_merge.proofs.merging.add_task.Given as goal

abbrev pub invariant-loop-mark : goal.invariant-loop-mark
invariant-loop-mark l = ForParts l.receipts
    (λ all. l.events.items ≡ l.initial.events.items ++ gathered all
    (map (part_of l.task.path) (take l.mark-index l.mark-items)))
