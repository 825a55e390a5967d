use Rattle.std.proofs.Common.{arith, sym}
use Rattle.fst_words.specs.Words.{row_of}
use Rattle.fst_expand.proofs.PlaceLaws.{got}
use Rattle.fst_expand.proofs.RepeatLaws.{places_by_rows}
use Rattle.fst_expand.proofs.following.places_of.Goals as goal

pub returns : goal.returns
returns c =
    let rows = c.args.m.now.grammar.now.rules.items in
    let words = c.requires.numbered.0 in
    let all = c.requires.numbered.1 in
    let count = all.count in
    let left = all.row c.args.left c.index-m-left.result
    (got c.args.m.now.numbers.now c.args.left c.index-m-left.result
    (let lt = c.requires.left in omega arith) c.index-m-left.is) in
    let right = all.row c.args.right c.index-m-right.result
    (got c.args.m.now.numbers.now c.args.right c.index-m-right.result
    (let lt = c.requires.right in omega arith) c.index-m-right.is) in
    let places = rw (
      c.as_slice-left_numbers.ensures.value,
      c.as_slice-right_numbers.ensures.value,
      sym c.index-m-left.is,
      sym c.index-m-right.is,
    ) at c.in_ok-places.ensures in
    places_by_rows words (row_of rows c.args.left)
    (row_of rows c.args.right) c.index-m-left.result.items c.index-m-right.result.items c.in_ok-places.places.items left right
    places
