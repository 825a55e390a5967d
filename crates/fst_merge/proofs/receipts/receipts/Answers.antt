use Rattle.std.proofs.Common.{◌∙◌, ap}
use Rattle.std.specs.Prelude.{sum_by}
use Rattle.std.proofs.lemmas.List.{take_all}
use Rattle.std.proofs.lemmas.List.Sorted.{sum_by-IsPermutation}
use Rattle.fst_merge.specs.declared.receipts.Receipt.{Receipt}
use Rattle.fst_merge.specs.Getters.{got_by, part_in}
use Rattle.fst_merge.specs.Receipts.{parts_in}
use Rattle.fst_merge.proofs.receipts.receipts.Goals as goal

pub returns-clause-are : goal.returns-clause-are
returns-clause-are c = λ w.
    sum_by-IsPermutation (λ (r : Receipt). w (part_in r)) c.loop-task.found.items c.sort.new.receipts.items
    c.in_ok-sort.ensures.same
    ∙ c.loop-task.invariant w
    ∙ ap (λ ts. sum_by (got_by w) (parts_in ts)) (take_all c.loop-task.task-index c.args.tasks.now c.loop-task-test.false)
