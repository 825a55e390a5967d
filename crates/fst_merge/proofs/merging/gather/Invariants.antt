use Rattle.std.proofs.Common.{◌≡◌, take}
use Rattle.fst_records.specs.Gathering.{gathered}
use Rattle.fst_merge.specs.Getters.{ForParts}
use Rattle.fst_merge.specs.Receipts.{parts_in}
use Rattle.fst_merge.proofs.merging.gather.Given as goal

abbrev pub invariant-loop-task : goal.invariant-loop-task
invariant-loop-task l = ForParts l.receipts
    (λ all. l.events.items ≡ gathered all (parts_in (take l.task-index l.tasks)))
