use Rattle.std.proofs.Common.{◌≡◌, ◌∙◌, ◌-◌, ◌≤◌, length, reverse, sym, arith}
use Rattle.fst_value.specs.declared.cells.Cell.TheVariants as cell
use Rattle.fst_value.proofs.Joining.{paired_gathered, gathered_joined}
use Rattle.fst_value.proofs.join.join_two.Goals as goal

pub returns : goal.returns
returns c =
    let values = c.args.values.now in
    let le : 2 ≤ length values.items = omega (arith, c.if-len-lt2.false, c.len.ensures, values.ok) in
    let at : c.len-at.result - 2 ≡ length values.items - 2 = omega (arith, c.len-at.ensures, values.ok) in
    sym (paired_gathered (reverse values.items))
    ∙ gathered_joined cell.Pair values.items c.join.new.values.items 2 (c.len-at.result - 2) le at c.in_ok-join.ensures.joined
