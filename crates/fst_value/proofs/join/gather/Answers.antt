use Rattle.std.proofs.Common.{◌≡◌, ◌-◌, ◌<◌, ◌≤◌, length, reverse, refl, arith}
use Rattle.std.proofs.lemmas.List.{length-reverse}
use Rattle.fst_value.specs.Cells.{rooted}
use Rattle.fst_value.specs.Parts.{listed}
use Rattle.fst_value.proofs.Joining.{gathered_joined, gathered_none}
use Rattle.fst_value.proofs.join.gather.Goals as goal

pub returns-then-len-count : goal.returns-then-len-count
returns-then-len-count c =
    let values = c.args.values.now in
    let lt : length (reverse values.items) < c.args.count =
    omega (arith, c.if-len-count.true, c.len.ensures, length-reverse values.items, values.ok) in
    (gathered_none (λ vs. rooted c.args.root (listed vs)) c.args.count (reverse values.items) lt, refl)

pub returns : goal.returns
returns c =
    let values = c.args.values.now in
    let le : c.args.count ≤ length values.items = omega (arith, c.if-len-count.false, c.len.ensures, values.ok) in
    let at : c.len-2.result - c.args.count ≡ length values.items - c.args.count = omega (arith, c.len-2.ensures, values.ok) in
    gathered_joined c.args.root values.items c.join.new.values.items c.args.count (c.len-2.result - c.args.count) le at
    c.in_ok-join.ensures.joined
