use Rattle.std.proofs.Common.{◌∷◌, sym, ap, subst, ◌∙◌, arith}
use Rattle.std.specs.Vec.Iter.{into_iter_items}
use Rattle.fst_worker.proofs.InOrder.{AreClosedSoFar, at_first, closed_more, next_cell, next_other, not_last}
use Rattle.fst_worker.proofs.closing.close_in_order.Goals as goal

pub loop-first-init : goal.loop-first-init
loop-first-init c =
    subst (AreClosedSoFar c.args.ends.items c.new-closed.result.items) (sym c.into_iter-left.ensures.rest)
    (subst (λ cs. AreClosedSoFar c.args.ends.items cs c.args.ends.items) (sym c.new-closed.ensures.items)
    (at_first _ c.requires.sorted))

pub unreachable-requires : goal.unreachable-requires
unreachable-requires c =
    let before = subst (AreClosedSoFar c.args.ends.items c.loop-first.closed.items) c.in-Some.ensures.items
    c.loop-first.invariant in
    not_last _ _ _ _ c.requires.run before (omega (arith, c.next.new.self.rest.ok.0, c.in_default-next.ensures.cases.0))

pub close_both-requires-clause-cell : goal.close_both-requires-clause-cell
close_both-requires-clause-cell c =
    let both = c.in-Some.ensures.items ∙ ap (λ xs. c.in-Some.first ∷ xs) c.in-Some-next.ensures.items in
    let before = subst (AreClosedSoFar c.args.ends.items c.loop-first.closed.items) both c.loop-first.invariant in
    next_cell _ _ _ _ _ c.requires.run before

pub close_both-requires-clause-name : goal.close_both-requires-clause-name
close_both-requires-clause-name c =
    let both = c.in-Some.ensures.items ∙ ap (λ xs. c.in-Some.first ∷ xs) c.in-Some-next.ensures.items in
    let before = subst (AreClosedSoFar c.args.ends.items c.loop-first.closed.items) both c.loop-first.invariant in
    next_other _ _ _ _ _ c.requires.run before

pub loop-first-preserved : goal.loop-first-preserved
loop-first-preserved c =
    let both = c.in-Some.ensures.items ∙ ap (λ xs. c.in-Some.first ∷ xs) c.in-Some-next.ensures.items in
    let before = subst (AreClosedSoFar c.args.ends.items c.loop-first.closed.items) both c.loop-first.invariant in
    let after = closed_more _ _ _ _ _ c.requires.run before c.close_both.result c.close_both.ensures in
    subst (λ cs. AreClosedSoFar c.args.ends.items cs (into_iter_items c.next-in-Some.new.self))
    (sym c.in_ok-push.ensures.items) after
