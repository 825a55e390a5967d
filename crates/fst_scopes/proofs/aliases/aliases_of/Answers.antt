use Rattle.std.proofs.Common.{◌∙◌, ap, sym, subst, map}
use Rattle.fst_loops.specs.Graphs.{items_of, IsGraph, IsOrder}
use Rattle.fst_scopes.proofs.OrderLaws.{known_is, graph_is}
use Rattle.fst_scopes.proofs.aliases.aliases_of.Goals as goal

pub order_of-requires-clause-graph : goal.order_of-requires-clause-graph
order_of-requires-clause-graph c = subst IsGraph (sym (ap (map items_of) c.deref.ensures.value ∙ c.in_ok-graph.ensures))
    (graph_is c.args.types.now)

pub returns-clause-known : goal.returns-clause-known
returns-clause-known c =
    known_is c.args.types.now c.in_ok-order.field-0.order.items c.in_ok-order.field-0.looped.items
    (subst (λ g. IsOrder g c.in_ok-order.field-0.order.items c.in_ok-order.field-0.looped.items)
    (ap (map items_of) c.deref.ensures.value ∙ c.in_ok-graph.ensures) c.in_ok-order.ensures)
