use Rattle.std.proofs.Common.{◌++◌, length, sym}
use Rattle.fst_shared.specs.Shared.{word_of}
use Rattle.fst_expand.proofs.ChainLaws.{copied_way}
use Rattle.fst_expand.proofs.PlaceLaws.{got}
use Rattle.fst_expand.proofs.chaining.chain_letter.Goals as goal

pub returns-then-place-chains-clause-way : goal.returns-then-place-chains-clause-way
returns-then-place-chains-clause-way c =
    let way = c.requires.before c.index-chains-place.result
    (got c.args.chains.now c.args.place c.index-chains-place.result c.if-place-chains.true c.index-chains-place.is) in
    let same = rw (c.deref.ensures.value, sym c.index-chains-place.is) at c.in_ok-steps.ensures in
    copied_way (length c.args.m.now.lowering.now) c.args.m.now.marks.now c.args.table.now.pairs
    (c.args.left.now.word.now ++ word_of c.args.table.now.words c.args.left.now.tail)
    (c.args.right.now.word.now ++ word_of c.args.table.now.words c.args.right.now.tail) c.index-chains-place.result
    (record { steps = c.in_ok-steps.steps }) same way
