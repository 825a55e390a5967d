use Rattle.std.proofs.Common.{◌∙◌, ◌++◌, length, arith, ap}
use Rattle.fst_value.specs.Parts.{parts_of, listed}
use Rattle.fst_value.proofs.Kept.{are_nodes, values_are, kept_parts, length-listed}
use Rattle.fst_value.proofs.value.Value.move_parts.Goals as goal

pub take_apart-requires-clause-nodes : goal.take_apart-requires-clause-nodes
take_apart-requires-clause-nodes c =
    let v = c.self.inside in
    let k = kept_parts v.root v.body.items c.args.self.now c.self.invariant c.self.view_is in
    are_nodes v.body.items (listed (parts_of c.args.self.now)) k.1

pub take_apart-requires-clause-count : goal.take_apart-requires-clause-count
take_apart-requires-clause-count c =
    let v = c.self.inside in
    let k = kept_parts v.root v.body.items c.args.self.now c.self.invariant c.self.view_is in
    let is = values_are v.body.items (listed (parts_of c.args.self.now)) k.1 in
    omega (arith, c.count-count.ensures, ap length is, length-listed (parts_of c.args.self.now))

pub returns-clause-parts : goal.returns-clause-parts
returns-clause-parts c =
    let v = c.self.inside in
    let k = kept_parts v.root v.body.items c.args.self.now c.self.invariant c.self.view_is in
    c.in_ok-take_apart.ensures.values
    ∙ ap (λ ws. c.args.values.now.items ++ ws) (values_are v.body.items (listed (parts_of c.args.self.now)) k.1)
