use Rattle.std.proofs.Common.{◌∙◌, ◌-◌, ◌++◌, take, drop, sym, ap}
use Rattle.std.specs.List.{flat_map}
use Rattle.fst_value.specs.Nodes.{nodes_of}
use Rattle.fst_value.proofs.Kept.{first_is, kept_is, kept_tree}
use Rattle.fst_value.proofs.Splitting.{first_taken}
use Rattle.fst_value.proofs.split.take_first.Goals as goal

pub invariant_of-result : goal.invariant_of-result
invariant_of-result c =
    let ns = c.args.nodes.now.items in
    let f = first_is ns c.requires.some c.requires.nodes in
    let n = c.index.result.now.size - 1 in
    let t = first_taken ns (flat_map nodes_of f.1) c.move_first.new.to.items c.move_first.new.from.items c.index.result.now
    c.unwrap-first.result f.0 c.index.ensures (rw c.unwrap-first.ensures at c.pop_front.ensures.lookup) f.2.nodes
    (c.move_first.ensures.to ∙ (λ i. c.in_ok-body.ensures.items i ++ take n (c.pop_front.ensures.rest i)))
    (c.move_first.ensures.from ∙ ap (drop n) c.pop_front.ensures.rest) in
    kept_is c.unwrap-first.result.cell c.move_first.new.to.items f.0 t.0

pub returns-clause-first : goal.returns-clause-first
returns-clause-first c =
    let ns = c.args.nodes.now.items in
    let f = first_is ns c.requires.some c.requires.nodes in
    let n = c.index.result.now.size - 1 in
    let t = first_taken ns (flat_map nodes_of f.1) c.move_first.new.to.items c.move_first.new.from.items c.index.result.now
    c.unwrap-first.result f.0 c.index.ensures (rw c.unwrap-first.ensures at c.pop_front.ensures.lookup) f.2.nodes
    (c.move_first.ensures.to ∙ (λ i. c.in_ok-body.ensures.items i ++ take n (c.pop_front.ensures.rest i)))
    (c.move_first.ensures.from ∙ ap (drop n) c.pop_front.ensures.rest) in
    let v = kept_tree c.unwrap-first.result.cell c.move_first.new.to.items f.0 t.0 in
    f.2.nodes ∙ (λ i. nodes_of (sym v i) ++ sym t.1 i)
