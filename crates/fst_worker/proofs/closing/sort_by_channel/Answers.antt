use Rattle.std.proofs.Common.{rules}
use Rattle.std.specs.Ordering.{is_lt}
use Rattle.std.proofs.lemmas.List.MinMax.{ranks_by}
use Rattle.std.proofs.lemmas.List.Sorted.{answers_always}
use Rattle.std.proofs.lemmas.Result.{on_ok_weaker}
use Rattle.fst_cell.specs.End.{EndView}
use Rattle.fst_worker.specs.Closing.{channel_cmp}
use Rattle.fst_records.proofs.Laws.{name_total}
use Rattle.fst_worker.proofs.closing.sort_by_channel.Goals as goal

pub returns-clause-sorted : goal.returns-clause-sorted
returns-clause-sorted c =
    on_ok_weaker c.sort_by.result
    (λ h. h (λ d e. is_lt (channel_cmp d e)) (ranks_by name_total (λ (e : EndView). e.channel))
    (answers_always _ _ _ (λ f a r g k. search rules)))
    c.sort_by.ensures.sorted
