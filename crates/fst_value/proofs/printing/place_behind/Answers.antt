use Rattle.std.proofs.Common.{arith}
use Rattle.fst_value.proofs.Printed.{behind_root_place, behind_value_place}
use Rattle.fst_value.proofs.printing.place_behind.Goals as goal

pub overflow_add-result-else-shown : goal.overflow_add-result-else-shown
overflow_add-result-else-shown c =
    let ns = c.args.nodes.now.items in
    let b = behind_value_place ns c.args.at c.index.result.now c.requires.some c.requires.nodes c.index.ensures
    in
    omega (arith, b.within, c.args.nodes.now.ok, c.args.nodes.now.small)

pub returns-then-shown-clause-rest : goal.returns-then-shown-clause-rest
returns-then-shown-clause-rest c =
    rw c.if-shown.true (behind_root_place c.args.nodes.now.items c.args.at c.requires.some c.requires.nodes).rest

pub returns-then-shown-clause-nodes : goal.returns-then-shown-clause-nodes
returns-then-shown-clause-nodes c =
    (behind_root_place c.args.nodes.now.items c.args.at c.requires.some c.requires.nodes).nodes

pub returns-else-shown-clause-rest : goal.returns-else-shown-clause-rest
returns-else-shown-clause-rest c =
    rw c.if-shown.false (behind_value_place c.args.nodes.now.items c.args.at c.index.result.now c.requires.some c.requires.nodes
    c.index.ensures).rest

pub returns-else-shown-clause-nodes : goal.returns-else-shown-clause-nodes
returns-else-shown-clause-nodes c =
    (behind_value_place c.args.nodes.now.items c.args.at c.index.result.now c.requires.some c.requires.nodes
    c.index.ensures).nodes
