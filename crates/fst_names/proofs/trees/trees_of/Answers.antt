use Rattle.fst_names.proofs.FaultlessTrees.{next_known, ready_after}
use Rattle.fst_names.proofs.trees.trees_of.Goals as goal

pub tree_at-requires-clause-ready : goal.tree_at-requires-clause-ready
tree_at-requires-clause-ready c =
    rw (c.deref.ensures.value, c.deref-k-items.ensures.value, c.loop-k.invariant)
    (ready_after c.requires.0 c.args.declarations.now c.requires.1 c.loop-k.k-index
    (rw c.deref-k-items.ensures.value at c.loop-k-test.true))

pub loop-k-preserved : goal.loop-k-preserved
loop-k-preserved c =
    rw c.deref-k-items.ensures.value (next_known c.requires.0 c.args.declarations.now c.requires.1 c.loop-k.k-index
    c.loop-k.trees.items c.in_ok-trees-2.field-0
    (rw c.deref-k-items.ensures.value at c.loop-k-test.true) c.loop-k.invariant
    (rw (c.deref.ensures.value, c.deref-k-items.ensures.value) at c.in_ok-trees-2.ensures))
