use Rattle.std.proofs.Common.{◌≡◌, List, subst}
use Rattle.fst_records.specs.Gathering.{gathered}
use Rattle.fst_merge.specs.declared.receipts.Receipt.{Receipt}
use Rattle.fst_merge.specs.Getters.{ForParts}
use Rattle.fst_merge.specs.Receipts.{parts_in}
use Rattle.fst_merge.proofs.Merged.{merged}
use Rattle.fst_merge.proofs.merging.merge.Goals as goal

pub returns : goal.returns
returns c = λ d.
    let ts = c.args.tasks.now in
    let gathers = subst
    (λ (rs : List Receipt). ForParts rs (λ all. c.in_ok-events.events.items ≡ gathered all (parts_in ts)))
    c.deref.ensures.value c.in_ok-events.ensures in
    merged ts d c.in_ok-receipts.receipts.items c.in_ok-events.events.items c.sort.new.events.items
    c.in_ok-receipts.ensures.are gathers c.in_ok-sort.ensures.same c.in_ok-sort.ensures.sorted
