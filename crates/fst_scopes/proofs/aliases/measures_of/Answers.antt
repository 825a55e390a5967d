use Rattle.std.proofs.Common.{◌∙◌, ap}
use Rattle.std.specs.Prelude.{replicate, None}
use Rattle.fst_scopes.proofs.CountLaws.{none_counted, more_counted}
use Rattle.fst_scopes.proofs.aliases.measures_of.Goals as goal

pub loop-k-init : goal.loop-k-init
loop-k-init c = none_counted _ _ (c.in_ok-measures.ensures ∙ ap (λ n. replicate n None) c.len.ensures)

pub loop-k-preserved : goal.loop-k-preserved
loop-k-preserved c = more_counted c.args.types.now c.args.looped.now c.args.order.now c.loop-k.k-index _ c.loop-k.measures.items
    c.measure_at.result c.loop-k-test.true c.loop-k.invariant
    (λ trees are. rw c.deref.ensures.value at c.measure_at.ensures trees are)
