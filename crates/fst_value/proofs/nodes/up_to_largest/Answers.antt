use Rattle.std.proofs.Common.{◌<◌, length, arith}
use Rattle.fst_value.specs.Nodes.{values_in}
use Rattle.fst_value.proofs.Kept.{at_value, value_within}
use Rattle.fst_value.proofs.nodes.up_to_largest.Goals as goal
use Rattle.fst_value.proofs.nodes.up_to_largest.Goals.{then-largest-size, else-largest-size}

pub index-requires : goal.index-requires
index-requires c =
    let ns = c.args.nodes.now.items in
    let lt : c.loop-i.i < length (values_in ns) = omega (arith, c.loop-i-test.true, c.requires.count) in
    omega (
      arith,
      value_within ns (values_in ns) c.loop-i.i c.loop-i.at c.requires.nodes lt c.loop-i.invariant.place,
      c.args.nodes.now.ok,
    )

pub overflow_add-at : goal.overflow_add-at
overflow_add-at c =
    let ns = c.args.nodes.now.items in
    let lt : c.loop-i.i < length (values_in ns) = omega (arith, c.loop-i-test.true, c.requires.count) in
    omega (
      arith,
      value_within ns (values_in ns) c.loop-i.i c.loop-i.at c.requires.nodes lt c.loop-i.invariant.place,
      (at_value ns (values_in ns) c.loop-i.i c.loop-i.at c.index.result.now c.requires.nodes lt c.loop-i.invariant.place
          c.index.ensures).0,
      c.args.nodes.now.ok,
      c.args.nodes.now.small,
    )

pub loop-i-preserved : goal.loop-i-preserved
loop-i-preserved c =
    let ns = c.args.nodes.now.items in
    let lt : c.loop-i.i < length (values_in ns) = omega (arith, c.loop-i-test.true, c.requires.count) in
    let next = (at_value ns (values_in ns) c.loop-i.i c.loop-i.at c.index.result.now c.requires.nodes lt c.loop-i.invariant.place
    c.index.ensures).1 in
    elim c.if-largest-size.branch [
      | then-largest-size w ↦ rw w.up_to-is (record { place = next; values = omega arith; nodes = next })
      | else-largest-size w ↦ rw w.up_to-is (record {
        place = next;
        values = omega (arith, c.loop-i.invariant.values);
        nodes = c.loop-i.invariant.nodes;
      })
    ]
