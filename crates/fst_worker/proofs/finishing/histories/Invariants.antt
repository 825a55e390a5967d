use Rattle.std.proofs.Common.{◌≡◌, ◌++◌, map}
use Rattle.std.specs.Vec.Iter.{into_iter_items}
use Rattle.fst_cell.specs.declared.answers.Closed.{Closed}
use Rattle.fst_worker.proofs.finishing.histories.Given as goal

abbrev pub invariant-loop-channel : goal.invariant-loop-channel
invariant-loop-channel l =
    l.channels.items ++ map (λ (c : Closed). c.history) (into_iter_items l.channel-iterator) ≡ map
    (λ (c : Closed). c.history) l.fn.closed.items
