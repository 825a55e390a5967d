use Rattle.std.proofs.Common.{drop}
use Rattle.fst_value.proofs.Printed.{first_begun, less_begun}
use Rattle.fst_value.proofs.printing.push_first.Goals as goal

pub returns-clause-same : goal.returns-clause-same
returns-clause-same c =
    first_begun c.args.families.now c.args.nodes.now.items (drop c.place_behind.result c.args.nodes.now.items) c.args.at
    c.index.result.now c.in_ok-shown.shown _ _ _ _ c.requires.some c.requires.nodes c.index.ensures c.in_ok-shown.ensures.shown
    c.place_behind.ensures.rest c.in_ok-shown.ensures.text c.in_ok-shown.ensures.pieces

pub returns-clause-less : goal.returns-clause-less
returns-clause-less c =
    less_begun c.args.families.now c.index.result.now.cell c.args.stack.now.items c.push_root.new.stack.items
    c.args.nodes.now.items c.args.at c.place_behind.result c.in_ok-shown.ensures.pieces c.requires.some
    c.place_behind.ensures.fewer
