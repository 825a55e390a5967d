use Rattle.std.proofs.Common.{rules}
use Rattle.std.specs.Ordering.{is_lt}
use Rattle.std.proofs.lemmas.List.MinMax.{ranks_by}
use Rattle.std.proofs.lemmas.List.Sorted.{answers_always}
use Rattle.std.proofs.lemmas.Result.{on_ok_weaker}
use Rattle.fst_merge.specs.Merging.{event_cmp}
use Rattle.fst_merge.proofs.Orders.{place_of, place_total}
use Rattle.fst_merge.proofs.merging.sort.Goals as goal

pub returns-clause-sorted : goal.returns-clause-sorted
returns-clause-sorted c =
    on_ok_weaker c.sort_by.result
    (λ h. h (λ d e. is_lt (event_cmp d e)) (ranks_by place_total place_of)
    (answers_always _ _ _ (λ f a r g k. search rules)))
    c.sort_by.ensures.sorted
