use Rattle.std.proofs.Common.{◌≡◌, length, arith}
use Rattle.fst_value.proofs.Splitting.{split_whole}
use Rattle.fst_value.proofs.split.split_last.Goals as goal

pub returns-in-Ok-clause-parts : goal.returns-in-Ok-clause-parts
returns-in-Ok-clause-parts c =
    let rest = c.pop.new.self in
    let at : c.len-at.result ≡ length rest.items = omega (arith, c.len-at.ensures, rest.ok) in
    split_whole c.args.values.now.items rest.items c.move_parts.new.values.items c.turn_round.new.values.items
    c.unwrap-value.result c.len-at.result (rw c.unwrap-value.ensures at c.pop.ensures.items) at c.in-Ok.ensures.parts
    c.turn_round.ensures
