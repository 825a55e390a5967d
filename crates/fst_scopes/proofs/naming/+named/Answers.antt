use Rattle.std.proofs.Common.{arith}
use Rattle.fst_scopes.specs.Scopes.{scope_around}
use Rattle.fst_scopes.proofs.Places.{first_there, first_less, rest_less}
use Rattle.fst_scopes.proofs.naming.+named.Goals as goal

pub named_branches-named-requires : goal.named_branches-named-requires
named_branches-named-requires t c =
    let there = first_there (scope_around c.args.names.now c.args.trees.now) c.args.branches.now c.first-item.result
    c.in-len1-up.len_at_least c.first-item.is c.requires.known in
    let low = first_less c.args.branches.now c.first-item.result c.in-len1-up.len_at_least c.first-item.is in
    let depth = c.requires.depth in
    (omega (arith, low.1), (omega (arith, low.0, depth), (c.requires.count, (c.requires.trees, there.0))))

pub named_branches-named_branches-requires : goal.named_branches-named_branches-requires
named_branches-named_branches-requires t c =
    let there = first_there (scope_around c.args.names.now c.args.trees.now) c.args.branches.now c.first-item.result
    c.in-len1-up.len_at_least c.first-item.is c.requires.known in
    let low = rest_less c.args.branches.now c.in-len1-up.len_at_least in
    let depth = c.requires.depth in
    (omega (arith, low.1), (omega (arith, low.0, depth), (c.requires.count, (c.requires.trees, there.1))))
